use Rattle.std.proofs.Common.{◌++◌, ◌+◌, ◌∙◌, ◌∷◌, ◌≡◌, [], ℕ, List, Option, Some, ap, arith, slice_get, sym, take}
use Rattle.std.proofs.lemmas.{List.get_or-map, List.length-map, List.take_more, Option.get_or_from_slice_get, Option.slice_get_within}
use Rattle.call_tree.specs.{Recording.parents_of, declared.records.Call.Call}
use Rattle.subtree_weights.proofs.weights.parent_column.Goals as goal

parents_more : (calls : List Call) (i : ℕ) (call : Call) → slice_get calls i ≡ Some call
    → take (i + 1) (parents_of calls) ≡ take i (parents_of calls) ++ call.parent ∷ []
parents_more calls i call is =
    let inside = slice_get_within calls i call is in
    let long = length-map calls (λ (k : Call). k.parent) in
    take_more (parents_of calls) i call.parent (omega arith)
    ∙ ap (λ (o : Option ℕ). take i (parents_of calls) ++ o ∷ [])
    (get_or-map (λ (k : Call). k.parent) calls i call call.parent inside ∙ ap (λ (k : Call). k.parent) (get_or_from_slice_get calls i call call is))

pub loop-call-preserved : goal.loop-call-preserved
loop-call-preserved c =
    c.in_ok-push.ensures.items ∙ ap (λ (l : List (Option ℕ)). l ++ c.call.result.now.parent ∷ []) c.loop-call.invariant
    ∙ sym (parents_more c.args.calls.now.calls c.loop-call.call c.call.result.now c.call.ensures.found)
