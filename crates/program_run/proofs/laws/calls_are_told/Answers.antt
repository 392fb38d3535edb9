use Rattle.program_run.proofs.CallsTold.{calls_told}
use Rattle.program_run.proofs.laws.calls_are_told.Goals as goal

pub returns : goal.returns
returns c = calls_told
