use Rattle.std.proofs.Common.{refl}
use Rattle.output_slice.proofs.needs.Needs.new.Goals as goal

pub returns : goal.returns
returns c = record { cells = λ a h. c.in_ok-cells.ensures a; input = refl; heap = refl }
