use Rattle.std.proofs.Common.{◌++◌, ◌+◌, ◌∙◌, ◌∷◌, ◌≡◌, [], ap, append_assoc, arith, drop, suc, sym}
use Rattle.eval_ops.proofs.Lists.{drop_get}
use Rattle.evaluator.proofs.actuals.append_all.Goals as goal

pub cells-preserved : goal.cells-preserved
cells-preserved c =
    let e : suc c.cells.i ≡ c.cells.i + 1 = omega arith in
    let d = drop_get c.args.values.now c.cells.i c.at.result c.at.ensures.found in
    record {
      so_far = ap (λ l. l ++ drop (c.cells.i + 1) c.args.values.now) c.in_ok-add_value.ensures.added
          ∙ append_assoc c.cells.list (c.at.result ∷ []) (drop (c.cells.i + 1) c.args.values.now)
          ∙ ap (λ l. c.cells.list ++ l) (sym (d ∙ ap (λ n. c.at.result ∷ drop n c.args.values.now) e))
          ∙ c.cells.invariant.so_far;
    }
