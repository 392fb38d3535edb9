use Rattle.core_program.proofs.RunAtAnyDepth.{runs}
use Rattle.core_program.proofs.laws.every_program_runs.Goals as goal

pub returns : goal.returns
returns c = runs
