use Rattle.made_program.proofs.FaultFound.{fault_found}
use Rattle.made_program.proofs.laws.fault_is_found.Goals as goal

pub returns : goal.returns
returns c = fault_found (record {
  least = c.question_is_least.ensures;
  nothing = c.nothing_wrong_is_nothing.ensures;
  buggy = c.buggy_is_left.ensures.found;
})
