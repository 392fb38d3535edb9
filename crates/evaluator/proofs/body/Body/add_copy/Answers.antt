use Rattle.std.proofs.Common.{◌++◌, ◌∙◌, ◌∷◌, [], ap, map, reverse}
use Rattle.std.proofs.lemmas.List.{map-append}
use Rattle.evaluator.proofs.Arguments.{copies_pushed}
use Rattle.evaluator.proofs.body.Body.add_copy.Goals as goal
use Rattle.evaluator.specs.Rest.{copy_of}

pub returns-clause-copies : goal.returns-clause-copies
returns-clause-copies c =
    let k = c.take_copies-copies.ensures in
    let b = c.take_copies-copies.new.self in
    let one = ap (map copy_of) c.in_ok-push.ensures.items ∙ map-append copy_of c.take_copies-copies.result.items (c.args.copied ∷ [])
    ∙ ap (λ l. l ++ copy_of c.args.copied ∷ []) k.result in
    λ i. record {
      cells = reverse (k.lists i);
      copies = (copies_pushed b.copies.items _ _ c.in_ok-push-2.ensures.items ∙ (λ j. one j ∷ k.copies j)) i;
    }
