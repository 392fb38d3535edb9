use Rattle.std.proofs.Common.{arith}
use Rattle.cell_names.proofs.places.places_up_to.Goals as goal

pub returns-then-last-found : goal.returns-then-last-found
returns-then-last-found c = λ k above below. absurd (omega (arith, above, below))
