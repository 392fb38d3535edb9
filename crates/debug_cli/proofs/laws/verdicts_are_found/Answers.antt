use Rattle.debug_cli.proofs.CallsAreRecorded.{call_is_recorded}
use Rattle.debug_cli.proofs.laws.verdicts_are_found.Goals as goal

pub returns : goal.returns
returns c = λ t p whole s entries call found.
    let at_fault = (c.search_is_sound.ensures.finds t p s entries call found).0 in
    let recorded = call_is_recorded p s call at_fault.a_call in
    record {
      at_fault = at_fault;
      row = recorded.0;
      recorded = recorded.1;
      own_work = c.exits_are_given.ensures p whole s.input s.budget call recorded.0 recorded.1;
    }
