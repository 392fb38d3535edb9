use Rattle.std.proofs.Common.{◌+◌, ◌-◌, ◌∙◌, ap, arith, replicate, sym}
use Rattle.cell_value.specs.declared.values.Value.TheVariants.{Undefined}
use Rattle.core_program.specs.Blocks.{filled}
use Rattle.eval_ops.proofs.FramesByCell.{block_more}
use Rattle.eval_ops.proofs.blocks.put_undefined.Goals as goal

pub cells-preserved : goal.cells-preserved
cells-preserved c =
    c.cells.invariant
    ∙ block_more c.args.first c.cells.i (c.args.cells - c.cells.i) (c.args.cells - (c.cells.i + 1)) c.cells.store (omega arith)
    ∙ ap (filled (c.args.first + (c.cells.i + 1)) (replicate (c.args.cells - (c.cells.i + 1)) Undefined)) (sym c.in_ok-put.ensures.set)
