use Rattle.optimal_query.proofs.GivenEntriesStand.{given_entries_stand}
use Rattle.optimal_query.proofs.laws.given_entries_stand_unless_taken_back.Goals as goal

pub returns : goal.returns
returns c = given_entries_stand
