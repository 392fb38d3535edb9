use Rattle.run_laws.proofs.RunsMiss.{misses_end}
use Rattle.run_laws.proofs.laws.misses_end_calls.Goals as goal

pub returns : goal.returns
returns c = misses_end
