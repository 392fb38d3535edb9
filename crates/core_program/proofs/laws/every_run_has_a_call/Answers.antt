use Rattle.core_program.proofs.CallsOfRunsNest.{has_call}
use Rattle.core_program.proofs.laws.every_run_has_a_call.Goals as goal

pub returns : goal.returns
returns c = has_call
