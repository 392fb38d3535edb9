use Rattle.core_program.proofs.CallsCounted.{calls_counted}
use Rattle.core_program.proofs.run_laws.calls_are_counted.Goals as goal

pub returns : goal.returns
returns c = calls_counted
