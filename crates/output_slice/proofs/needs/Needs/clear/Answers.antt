use Rattle.std.proofs.Common.{refl}
use Rattle.output_slice.proofs.needs.Needs.clear.Goals as goal

pub returns : goal.returns
returns c = record { cells = λ a h. c.clear.ensures a; input = refl; heap = refl }
