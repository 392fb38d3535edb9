use Rattle.std.proofs.Common.{◌∙◌, ◌≡◌, ap, arith, reverse, sum_by, sym}
use Rattle.core_program.specs.{Output.end_line, ProgramRows.row_at, Tree.bind}
use Rattle.eval_ops.specs.Machines.{moment_of}
use Rattle.evaluator.proofs.Turning.{moves_by, moves_from, moves_on}
use Rattle.evaluator.proofs.after_parts.follow_statement.Goals as goal
use Rattle.evaluator.specs.{Weight.task_weight, declared.tasks.Now.TheVariants.Came, declared.tasks.Task.Task, declared.tasks.Way.Way}
use Rattle.evaluator.specs.Rest.{after_turn, below_top, from_under, lists_of, resume, tasks_of, top, values_of, waiting, with_numbers}

pub returns-in-Sequence-clause-moves : goal.returns-in-Sequence-clause-moves
returns-in-Sequence-clause-moves c = moves_by (c.go.ensures.turns c.args.program.now) c.go.ensures.falls c.go.ensures.home (rw c.in-Sequence.is)
    (omega (arith, ap (λ t. task_weight (Task.Next t)) c.in-Sequence.is))

pub returns-in-Again-clause-moves : goal.returns-in-Again-clause-moves
returns-in-Again-clause-moves c =
    moves_by (c.go-in-Again.ensures.turns c.args.program.now) c.go-in-Again.ensures.falls c.go-in-Again.ensures.home (rw c.in-Again.is)
    (omega (arith, ap (λ t. task_weight (Task.Next t)) c.in-Again.is))

pub returns-in-Condition-clause-moves : goal.returns-in-Condition-clause-moves
returns-in-Condition-clause-moves c =
    moves_by (c.by_value.ensures.turns c.args.program.now) c.by_value.ensures.falls c.by_value.ensures.home (rw c.in-Condition.is)
    (omega (arith, ap (λ t. task_weight (Task.Next t)) c.in-Condition.is))

pub returns-in-Counted-clause-moves : goal.returns-in-Counted-clause-moves
returns-in-Counted-clause-moves c =
    let p = c.args.program.now in
    let w = c.take_value-value.ensures.waits p ∙ ap (λ hm. resume p hm (tasks_of c.take_value-last.new.self) (below_top (values_of c.take_value-last.new.self))
    (lists_of c.take_value-last.new.self)) c.take_value-last.ensures.home ∙ ap (λ ts. resume p c.args.body.now.home (reverse ts) (below_top (values_of
    c.take_value-last.new.self)) (lists_of c.take_value-last.new.self)) c.take_value-last.ensures.tasks ∙ ap (λ vs. resume p c.args.body.now.home (tasks_of
    c.args.body.now) (below_top vs) (lists_of c.take_value-last.new.self)) c.take_value-last.ensures.values ∙ ap (λ ls. resume p c.args.body.now.home (tasks_of
    c.args.body.now) (below_top (below_top (values_of c.args.body.now))) ls) c.take_value-last.ensures.lists in
    let x = c.take_value-value.ensures.result ∙ ap top c.take_value-last.ensures.values in
    moves_from c.turn_ended.ensures.moves (ap (λ t. from_under p c.args.body.now (Came Way.Nothing) (Task.Next t)) c.in-Counted.is ∙ ap (λ k. bind (with_numbers
    (top (below_top (values_of c.args.body.now))) (top (values_of c.args.body.now)) (λ i last. after_turn c.args.body.now.home c.in-Counted.row
    c.in-Counted.line i last (row_at p c.in-Counted.row))) k) (sym w) ∙ ap (λ y. bind (with_numbers y (top (values_of c.args.body.now)) (λ i last. after_turn
    c.args.body.now.home c.in-Counted.row c.in-Counted.line i last (row_at p c.in-Counted.row))) (waiting p c.take_value-value.new.self)) (sym x) ∙ ap (λ y.
    bind (with_numbers c.take_value-value.result y (λ i last. after_turn c.args.body.now.home c.in-Counted.row c.in-Counted.line i last (row_at p
    c.in-Counted.row))) (waiting p c.take_value-value.new.self)) (sym c.take_value-last.ensures.result) ∙ ap (λ hm. bind (with_numbers c.take_value-value.result
    c.take_value-last.result (λ i last. after_turn hm c.in-Counted.row c.in-Counted.line i last (row_at p c.in-Counted.row))) (waiting p
    c.take_value-value.new.self)) (sym (c.take_value-value.ensures.home ∙ c.take_value-last.ensures.home)))
    (omega (
      arith,
      ap (sum_by task_weight) c.take_value-value.ensures.tasks,
      ap (sum_by task_weight) c.take_value-last.ensures.tasks,
      ap
          (λ t. task_weight (Task.Next t)) c.in-Counted.is,
    )) (c.take_value-value.ensures.home ∙ c.take_value-last.ensures.home)

pub returns-in-Forget-clause-moves : goal.returns-in-Forget-clause-moves
returns-in-Forget-clause-moves c =
    moves_by (c.go-in-Forget.ensures.turns c.args.program.now) c.go-in-Forget.ensures.falls c.go-in-Forget.ensures.home (rw c.in-Forget.is)
    (omega (arith, ap (λ t. task_weight (Task.Next t)) c.in-Forget.is))

pub returns-in-Labelled-clause-moves : goal.returns-in-Labelled-clause-moves
returns-in-Labelled-clause-moves c =
    moves_by (c.go-in-Labelled.ensures.turns c.args.program.now) c.go-in-Labelled.ensures.falls c.go-in-Labelled.ensures.home (rw c.in-Labelled.is)
    (omega (arith, ap (λ t. task_weight (Task.Next t)) c.in-Labelled.is))

pub returns-in-PassLine-clause-moves : goal.returns-in-PassLine-clause-moves
returns-in-PassLine-clause-moves c =
    moves_by (c.go-in-PassLine.ensures.turns c.args.program.now) c.go-in-PassLine.ensures.falls c.go-in-PassLine.ensures.home (rw c.in-PassLine.is)
    (omega (arith, ap (λ t. task_weight (Task.Next t)) c.in-PassLine.is))

pub returns-in-EndLine-clause-moves : goal.returns-in-EndLine-clause-moves
returns-in-EndLine-clause-moves c =
    let e : task_weight (Task.Next c.args.next) ≡ 1 = ap (λ t. task_weight (Task.Next t)) c.in-EndLine.is in
    moves_on (c.finally.ensures.moves c.args.program.now end_line (moment_of c.args.machine.now) (moment_of c.end_line-done.new.machine)
    c.end_line-done.ensures.action) (rw c.in-EndLine.is) (omega (arith, e))
