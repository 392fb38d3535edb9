use Rattle.run_laws.proofs.RunsJump.{jumps_outward}
use Rattle.run_laws.proofs.laws.jumps_lead_outward.Goals as goal

pub returns : goal.returns
returns c = jumps_outward
