use Rattle.std.proofs.Common.{◌++◌, ◌+◌, ◌∙◌, ◌∷◌, ◌≡◌, [], ℕ, List, Some, ap, arith, slice_get, sym, take}
use Rattle.std.proofs.lemmas.{List.get_or-map, List.length-map, List.take_more, Option.get_or_from_slice_get, Option.slice_get_within}
use Rattle.call_tree.specs.{Recording.depths_of, declared.records.Call.Call}
use Rattle.optimal_query.proofs.markings.depth_column.Goals as goal

depths_more : (calls : List Call) (i : ℕ) (call : Call) → slice_get calls i ≡ Some call
    → take (i + 1) (depths_of calls) ≡ take i (depths_of calls) ++ call.depth ∷ []
depths_more calls i call is =
    let inside = slice_get_within calls i call is in
    let long = length-map calls (λ (k : Call). k.depth) in
    take_more (depths_of calls) i call.depth (omega arith)
    ∙ ap (λ (o : ℕ). take i (depths_of calls) ++ o ∷ [])
    (get_or-map (λ (k : Call). k.depth) calls i call call.depth inside ∙ ap (λ (k : Call). k.depth) (get_or_from_slice_get calls i call call is))

pub loop-call-preserved : goal.loop-call-preserved
loop-call-preserved c =
    c.in_ok-push.ensures.items ∙ ap (λ (l : List ℕ). l ++ c.call.result.now.depth ∷ []) c.loop-call.invariant
    ∙ sym (depths_more c.args.calls.now.calls c.loop-call.call c.call.result.now c.call.ensures.found)
