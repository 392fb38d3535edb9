use Rattle.core_program.proofs.CallsOfRunsNest.{stand_of}
use Rattle.core_program.proofs.laws.marks_tell_the_log.Goals as goal

pub returns : goal.returns
returns c = stand_of
