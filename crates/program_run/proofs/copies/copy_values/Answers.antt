use Rattle.std.proofs.Common.{◌++◌, ◌+◌, ◌∙◌, ◌∷◌, ◌≡◌, [], ap, append_assoc, arith, drop, length, length-append, suc, sym}
use Rattle.eval_ops.proofs.Lists.{drop_get}
use Rattle.program_run.proofs.copies.copy_values.Goals as goal

pub values-preserved : goal.values-preserved
values-preserved c =
    let values = c.args.values.now in
    let x = c.at.result in
    let long = ap length c.in_ok-push.ensures.added ∙ length-append c.values.copy (x ∷ []) in
    let now = c.values.invariant.1 in (
      ap (λ l. l ++ drop (c.values.i + 1) values) c.in_ok-push.ensures.added
          ∙ append_assoc c.values.copy (x ∷ []) (drop (c.values.i + 1) values)
          ∙ ap (λ l. c.values.copy ++ l) (sym (drop_get values c.values.i x c.at.ensures.found
          ∙ ap (λ n. x ∷ drop n values) (let e : suc c.values.i ≡ c.values.i + 1 = omega arith in e)))
          ∙ c.values.invariant.0,
      omega (arith, long, now),
    )
