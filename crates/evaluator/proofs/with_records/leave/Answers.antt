use Rattle.std.proofs.Common.{◌∙◌}
use Rattle.evaluator.proofs.RecordsLeft.{way_left}
use Rattle.evaluator.proofs.with_records.leave.Goals as goal
use Rattle.evaluator.specs.Rest.{lists_of, tasks_of, values_of}

pub returns-clause-turns : goal.returns-clause-turns
returns-clause-turns c p m u same =
    let b = c.args.body.now in
    c.go.ensures.turns p m u (same ∙ way_left p b.home c.leave.new.self c.args.way (tasks_of b) (values_of b) (lists_of b) c.leave.ensures)
