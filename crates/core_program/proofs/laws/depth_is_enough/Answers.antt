use Rattle.core_program.proofs.RunAtAnyDepth.{deeper}
use Rattle.core_program.proofs.laws.depth_is_enough.Goals as goal

pub returns : goal.returns
returns c = deeper
