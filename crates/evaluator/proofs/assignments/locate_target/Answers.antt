use Rattle.evaluator.proofs.assignments.locate_target.Goals as goal

pub returns-clause-turns : goal.returns-clause-turns
returns-clause-turns c m u same =
    let p = c.args.program.now in
    c.hold.ensures.turns p m u same
