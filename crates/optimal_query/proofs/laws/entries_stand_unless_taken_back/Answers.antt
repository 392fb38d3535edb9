use Rattle.optimal_query.proofs.StandUnlessTakenBack.{stand_unless_taken_back}
use Rattle.optimal_query.proofs.laws.entries_stand_unless_taken_back.Goals as goal

pub returns : goal.returns
returns c = stand_unless_taken_back
