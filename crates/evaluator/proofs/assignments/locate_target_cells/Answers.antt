use Rattle.evaluator.proofs.assignments.locate_target_cells.Goals as goal

pub returns-clause-turns : goal.returns-clause-turns
returns-clause-turns c m u same =
    let p = c.args.program.now in
    c.wait.ensures.turns p m u same
