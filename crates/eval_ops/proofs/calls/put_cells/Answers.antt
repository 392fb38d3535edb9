use Rattle.std.proofs.Common.{◌+◌, ◌∙◌, ap, drop, sym}
use Rattle.core_program.specs.{Blocks.filled, Run.frame_cells}
use Rattle.eval_ops.proofs.FramesByCell.{filled_more}
use Rattle.eval_ops.proofs.calls.put_cells.Goals as goal

pub cells-preserved : goal.cells-preserved
cells-preserved c =
    c.cells.invariant
    ∙ filled_more c.args.base c.cells.i (frame_cells c.args.routine c.args.args.now) c.first_value.result c.cells.store c.first_value.ensures
    ∙ ap (filled (c.args.base + (c.cells.i + 1)) (drop (c.cells.i + 1) (frame_cells c.args.routine c.args.args.now))) (sym c.in_ok-put.ensures.set)
