use Rattle.std.proofs.Common.{◌∙◌, ◌∷◌, ◌≡◌, ℕ, ap, length, map, refl, replicate, rules, suc, sym, zero}
use Rattle.std.proofs.lemmas.List.{length-map, length-replicate}
use Rattle.call_tree.specs.declared.records.{Call.Call, Mark.TheVariants.Unjudged}
use Rattle.optimal_query.proofs.markings.Markings.new.Goals as goal
use Rattle.optimal_query.specs.Markings.{askable_flag}

unjudged_flags : (n : ℕ) → map askable_flag (replicate n Unjudged) ≡ replicate n 1
unjudged_flags zero = refl
unjudged_flags (suc n) = ap (λ l. 1 ∷ l) (unjudged_flags n)

pub invariant_of-result : goal.invariant_of-result
invariant_of-result c =
    let n = length c.args.calls.now.calls in
    let marks : c.in_ok-marks.marks.items ≡ replicate c.len.result Unjudged = search rules in
    let flags : c.in_ok-askable.askable.items ≡ replicate c.len-2.result 1 = search rules in
    rw c.in_ok-weights.ensures
    (record {
      same = marks ∙ ap (λ k. replicate k Unjudged) c.len.ensures;
      flagged = flags ∙ ap (λ k. replicate k 1) c.len-2.ensures ∙ sym (unjudged_flags n);
      each = length-replicate n Unjudged ∙ sym (length-map c.args.calls.now.calls (λ (call : Call). call.last));
      deep = c.in_ok-depths.ensures;
    })
