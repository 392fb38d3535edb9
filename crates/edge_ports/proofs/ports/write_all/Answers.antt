use Rattle.std.proofs.Common.{◌∙◌, ℕ, arith}
use Rattle.std.proofs.lemmas.{List.length-drop, List.length-take, List.take_rest, Result.err_from_is_err_and}
use Rattle.edge_ports.proofs.PiecesAddUp.{gave_piece, gave_prefix_take}
use Rattle.edge_ports.proofs.ports.write_all.Goals as goal

pub returns-in_err-at-clause-failed : goal.returns-in_err-at-clause-failed
returns-in_err-at-clause-failed g c =
    let p = err_from_is_err_and c.from_residual.result c.from_residual.ensures.1 in
    rw (p.1, c.in_err-at.ensures.failed) (gave_prefix_take _ c.args.bytes.now c.loop-at.at c.loop-at.invariant.3)

pub loop-at-preserved : goal.loop-at-preserved
loop-at-preserved g c = (
  omega (arith, length-take {A = ℕ}, length-drop {A = ℕ}, c.in_ok-at.ensures.count),
  c.in_ok-at.ensures.calm ∙ c.loop-at.invariant.1,
  c.in_ok-at.ensures.loan ∙ c.loop-at.invariant.2,
  gave_piece _ c.args.bytes.now c.loop-at.at c.in_ok-at.field-0 c.loop-at.invariant.3 (rw take_rest at c.in_ok-at.ensures.gave),
)
