use Rattle.std.{proofs.Common.◌≡◌, specs.FinMap.empty}
use Rattle.core_program.specs.Blocks.{filled}
use Rattle.reference_oracle.proofs.FramesMade.{rest_of}
use Rattle.reference_oracle.proofs.asks.cells_for.Given as goal
use Rattle.reference_oracle.specs.Asking.{frame_by}

abbrev pub invariant-cells : goal.invariant-cells
invariant-cells l =
    filled l.address (rest_of l.store l.places l.address l.cells) l.frame ≡ filled 0 (frame_by l.store l.places l.cells) empty
