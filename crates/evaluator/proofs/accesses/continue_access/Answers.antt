use Rattle.std.proofs.Common.{◌∙◌, ◌∷◌, ap, arith, sym}
use Rattle.core_program.specs.{ProgramRows.type_at, Tree.Address, Tree.bind, Tree.doing}
use Rattle.core_program.specs.Accesses.{address, eval, locate_field, value_at, with_components}
use Rattle.core_program.specs.Cells as action
use Rattle.eval_ops.specs.Machines.{moment_of}
use Rattle.evaluator.proofs.{ConformantTrees.wanted_at, Moves.comes_same, Moves.comes_then}
use Rattle.evaluator.proofs.Turning.{moves_after, moves_after_by, moves_by, moves_on, spent, spent_less}
use Rattle.evaluator.proofs.accesses.continue_access.Goals as goal
use Rattle.evaluator.specs.{Weight.task_weight, declared.tasks.Task.Task}
use Rattle.evaluator.specs.Rest.{here, lists_of, resume, tasks_of, values_of, waiting}

pub returns-in-Value-clause-moves : goal.returns-in-Value-clause-moves
returns-in-Value-clause-moves c =
    moves_on c.variable_value.ensures.moves (ap (λ t. resume c.args.program.now c.args.body.now.home (Task.Located t ∷ tasks_of c.args.body.now) (values_of
    c.args.body.now) (lists_of c.args.body.now) (Address c.args.addr)) c.in-Value.is
    ∙ ap (λ x. bind x (waiting c.args.program.now c.args.body.now)) (wanted_at c.args.program.now c.in-Value.line c.in-Value.of c.args.addr)
    ∙ ap (λ t. bind (value_at c.args.program.now c.in-Value.line c.args.addr t) (waiting c.args.program.now c.args.body.now)) (sym c.type_row.ensures))
    (omega (arith, ap (λ t. task_weight (Task.Located t)) c.in-Value.is))

pub returns-in-Passed-clause-moves : goal.returns-in-Passed-clause-moves
returns-in-Passed-clause-moves c = moves_by c.add_cell.ensures.turns c.add_cell.ensures.falls c.add_cell.ensures.home (rw c.in-Passed.is)
    (omega (arith, ap (λ t. task_weight (Task.Located t)) c.in-Passed.is))

pub returns-in-Ok-clause-moves : goal.returns-in-Ok-clause-moves
returns-in-Ok-clause-moves c =
    let p = c.args.program.now in
    let h = here c.args.body.now.home c.in-Index.line in
    moves_after_by (c.wait.ensures.turns p) c.wait.ensures.falls c.wait.ensures.home (comes_then (comes_same (ap (λ t. resume c.args.program.now
    c.args.body.now.home (Task.Located t ∷ tasks_of c.args.body.now) (values_of c.args.body.now) (lists_of c.args.body.now) (Address c.args.addr))
    c.in-Index.is)) (spent p h (eval c.in-Index.index h (λ v. with_components p (type_at p c.in-Index.array) (λ a. doing c.in-Index.line (action.component a
    c.args.addr v) address))) (waiting p c.args.body.now) (moment_of c.args.machine.now) (moment_of c.spend.new.machine) c.in-Ok.ensures.act))
    (omega (
      arith,
      ap (λ t. task_weight (Task.Located t)) c.in-Index.is,
      spent_less (moment_of c.args.machine.now) (moment_of c.spend.new.machine)
          c.in-Ok.ensures.act,
    ))

pub returns-in-Ok-spend-clause-moves : goal.returns-in-Ok-spend-clause-moves
returns-in-Ok-spend-clause-moves c =
    let p = c.args.program.now in
    let h = here c.args.body.now.home c.in-Field.line in
    moves_after c.locate_field.ensures.moves (comes_then (comes_same (ap (λ t. resume c.args.program.now c.args.body.now.home (Task.Located t ∷ tasks_of
    c.args.body.now) (values_of c.args.body.now) (lists_of c.args.body.now) (Address c.args.addr)) c.in-Field.is)) (spent p h (locate_field p c.in-Field.target
    c.in-Field.line c.args.addr c.in-Field.field) (waiting p c.args.body.now) (moment_of c.args.machine.now) (moment_of c.spend-in-Field.new.machine)
    c.in-Ok-spend.ensures.act)) (omega (
      arith,
      ap (λ t. task_weight (Task.Located t)) c.in-Field.is,
      spent_less (moment_of c.args.machine.now)
          (moment_of c.spend-in-Field.new.machine) c.in-Ok-spend.ensures.act,
    ))

pub returns-in-Pointed-clause-moves : goal.returns-in-Pointed-clause-moves
returns-in-Pointed-clause-moves c = moves_on (c.follow_pointer.ensures.moves c.args.program.now) (rw c.in-Pointed.is)
    (omega (arith, ap (λ t. task_weight (Task.Located t)) c.in-Pointed.is))
