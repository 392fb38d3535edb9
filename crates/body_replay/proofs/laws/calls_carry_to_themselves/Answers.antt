use Rattle.body_replay.proofs.CallsCarry.{carry_to_themselves}
use Rattle.body_replay.proofs.laws.calls_carry_to_themselves.Goals as goal

pub returns : goal.returns
returns c = carry_to_themselves
