use Rattle.std.proofs.Common.{◌++◌, ◌+◌, ◌∙◌, ◌∷◌, ◌≡◌, [], ap, append_assoc, arith, drop, length, length-append, suc, sym}
use Rattle.eval_ops.proofs.Lists.{drop_get}
use Rattle.program_run.proofs.copies.copy_items.Goals as goal

pub items-preserved : goal.items-preserved
items-preserved c =
    let items = c.args.items.now in
    let x = c.at.result in
    let long = ap length c.in_ok-push.ensures.added ∙ length-append c.items.copy (x ∷ []) in
    let now = c.items.invariant.1 in (
      ap (λ l. l ++ drop (c.items.i + 1) items) c.in_ok-push.ensures.added
          ∙ append_assoc c.items.copy (x ∷ []) (drop (c.items.i + 1) items)
          ∙ ap (λ l. c.items.copy ++ l) (sym (drop_get items c.items.i x c.at.ensures.found
          ∙ ap (λ n. x ∷ drop n items) (let e : suc c.items.i ≡ c.items.i + 1 = omega arith in e)))
          ∙ c.items.invariant.0,
      omega (arith, long, now),
    )
