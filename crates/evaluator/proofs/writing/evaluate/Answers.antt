use Rattle.evaluator.proofs.writing.evaluate.Goals as goal

pub returns-clause-turns : goal.returns-clause-turns
returns-clause-turns c p m u same = c.wait.ensures.turns p m u same
