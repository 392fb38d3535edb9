use Rattle.std.proofs.Common.{◌∙◌, arith}
use Rattle.body_replay.proofs.ChangesOneByOne.{one_more}
use Rattle.body_replay.proofs.applied.change_cells.Goals as goal

pub changes-preserved : goal.changes-preserved
changes-preserved g c = (
  c.changes.invariant.0
      ∙ one_more c.args.changes.now c.changes.i c.at-addr.result c.changes.store c.change_cell.new.store c.at-addr.ensures.found c.in_ok-change_cell.ensures,
  let a = c.changes.invariant.1 in let t = c.tick.ensures in omega (arith, a, t),
)
