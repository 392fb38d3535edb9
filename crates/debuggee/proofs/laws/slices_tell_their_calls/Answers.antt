use Rattle.debuggee.proofs.SlicesTold.{slices_told}
use Rattle.debuggee.proofs.laws.slices_tell_their_calls.Goals as goal

pub returns : goal.returns
returns c = slices_told
