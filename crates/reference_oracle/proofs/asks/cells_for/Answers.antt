use Rattle.std.proofs.Common.{◌∙◌, arith}
use Rattle.reference_oracle.proofs.FramesMade.{frame_goes_on}
use Rattle.reference_oracle.proofs.asks.cells_for.Goals as goal

pub cells-preserved : goal.cells-preserved
cells-preserved c =
    frame_goes_on c.args.store.now c.args.places.now c.cells.address c.args.cells c.cells.frame c.put-in-cells.new.self c.held_at-value.result
    (omega arith) c.held_at-value.ensures c.in_ok-put-2.ensures.set ∙ c.cells.invariant
