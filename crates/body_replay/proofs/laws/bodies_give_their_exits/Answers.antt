use Rattle.body_replay.proofs.ExitsAreGiven.{exits_are_given}
use Rattle.body_replay.proofs.laws.bodies_give_their_exits.Goals as goal

pub returns : goal.returns
returns c = exits_are_given c.bodies_repeat.ensures
