use Rattle.answer_reuse.proofs.AlikeCalls.{are_as_large, did_the_same}
use Rattle.answer_reuse.proofs.laws.alike_calls_did_the_same.Goals as goal

pub returns-clause-same : goal.returns-clause-same
returns-clause-same c =
    did_the_same c.states_are_sound.ensures.runs c.calls_carry_to_themselves.ensures c.records_stand.ensures

pub returns-clause-large : goal.returns-clause-large
returns-clause-large c =
    are_as_large c.states_are_sound.ensures.runs c.calls_carry_to_themselves.ensures c.records_stand.ensures
