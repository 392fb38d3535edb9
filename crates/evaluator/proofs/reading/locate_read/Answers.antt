use Rattle.evaluator.proofs.reading.locate_read.Goals as goal

pub returns-clause-turns : goal.returns-clause-turns
returns-clause-turns c p m u same = c.hold.ensures.turns p m u same
