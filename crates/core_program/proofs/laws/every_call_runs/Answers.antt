use Rattle.core_program.proofs.RunAtAnyDepth.{call_runs}
use Rattle.core_program.proofs.laws.every_call_runs.Goals as goal

pub returns : goal.returns
returns c = call_runs
