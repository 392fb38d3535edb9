use Rattle.std.proofs.Common.{◌+◌, ◌-◌, ◌∙◌, ap, arith, sym}
use Rattle.core_program.specs.Blocks.{cleared}
use Rattle.eval_ops.proofs.FramesByCell.{cleared_more}
use Rattle.eval_ops.proofs.calls.remove_cells.Goals as goal

pub cells-preserved : goal.cells-preserved
cells-preserved c =
    c.cells.invariant
    ∙ cleared_more c.args.base c.cells.i (c.args.cells - c.cells.i) (c.args.cells - (c.cells.i + 1)) c.cells.store (omega arith)
    ∙ ap (cleared (c.args.base + (c.cells.i + 1)) (c.args.cells - (c.cells.i + 1))) (sym c.in_ok-remove.ensures.gone)
