use Rattle.std.proofs.Common.{◌∙◌, ◌∷◌, ap, map, reverse, sym}
use Rattle.evaluator.proofs.{Arguments.copies_pushed, Moves.comes_same, Turning.reverse_pushed}
use Rattle.evaluator.proofs.calls.begin_call.Goals as goal
use Rattle.evaluator.specs.{Rest.copies_in, Rest.copy_of, Rest.left_now, Rest.values_of, declared.tasks.Now.TheVariants.Begin, declared.tasks.Part.Part}

pub returns-clause-turns : goal.returns-clause-turns
returns-clause-turns c p m u same =
    let a = c.args.body.now in
    comes_same (same ∙ sym (λ i. left_now p a.home (Begin (Part.Pass c.args.actuals c.args.line))
    (reverse_pushed a.tasks.items _ c.args.task c.in_ok-push-3.ensures.items i) (values_of a) (record {
      cells = (reverse_pushed a.lists.items _ _ c.in_ok-push.ensures.items ∙ ap (λ l. l ∷ reverse a.lists.items) c.new.ensures) i;
      copies = (copies_pushed a.copies.items _ _ c.in_ok-push-2.ensures.items
          ∙ ap (λ l. map copy_of l ∷ reverse (map copies_in a.copies.items)) c.new-2.ensures.items) i;
    })))
