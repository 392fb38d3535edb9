use Rattle.std.proofs.Common.{if◌then◌else◌, ◌∙◌, ◌≡◌, Err, ap, arith, subst, sym}
use Rattle.cell_value.specs.declared.values.Value.{Value}
use Rattle.core_program.specs.{Accesses.no_row, Actions.performs, Cells.write, ProgramRows.row_at, State.moved, Tree.Count, Tree.Exec, Tree.Sub, Tree.bind}
use Rattle.core_program.specs.Statements as meaning
use Rattle.eval_ops.specs.Machines.{DoesAll, machine_state, moment_of}
use Rattle.evaluator.proofs.{Moves.comes_same, Moves.comes_then, StepsFall.steps_fall}
use Rattle.evaluator.proofs.Turning.{did, fails, fails_after, moves_after_by, moves_failed, part_comes}
use Rattle.evaluator.proofs.counting.count.Goals as goal
use Rattle.evaluator.specs.Rest.{after_turn, here, waiting}

pub returns-in-Ok-clause-moves : goal.returns-in-Ok-clause-moves
returns-in-Ok-clause-moves c p e =
    let h = here c.args.body.now.home c.args.line in
    let rest = waiting p c.args.body.now in
    let w = rw (c.moved-variable.ensures, c.turn_value.ensures) at c.in-Ok.ensures.action in
    let k : after_turn c.args.body.now.home c.args.row c.args.line c.args.span.value c.args.span.last (row_at p c.args.row) ≡ meaning.turn_after c.args.row h
    c.args.counting.direction c.args.counting.place c.args.span.value c.args.span.last = ap (after_turn c.args.body.now.home c.args.row c.args.line
    c.args.span.value c.args.span.last) e ∙ ap (λ b. if b then meaning.turn_after c.args.row h c.args.counting.direction c.args.counting.place c.args.span.value
    c.args.span.last else no_row) c.requires.turn in
    let l = steps_fall {X = Unit {0}} (λ _. tt) (write (moved c.args.body.now.home.base c.args.counting.place) (Value.Number c.args.span.value)) tt (moment_of
    c.args.machine.now) (moment_of c.write_cell.new.machine) w in
    moves_after_by (c.do_body.ensures.turns p) c.do_body.ensures.falls c.do_body.ensures.home
    (comes_then (comes_then (part_comes p (Count c.args.row c.args.span.value c.args.span.last h) rest (moment_of c.args.machine.now) _
    (ap (meaning.of_count c.args.row h c.args.span.value c.args.span.last) e))
    (did {X = Unit {0}} p c.args.line (write (moved c.args.body.now.home.base c.args.counting.place) (Value.Number c.args.span.value))
    (λ _. Sub (Exec c.args.counting.body h) (meaning.on_normal (meaning.turn_after c.args.row h c.args.counting.direction c.args.counting.place
    c.args.span.value c.args.span.last))) rest (λ _. tt) c.in-Ok.field-0 (moment_of c.args.machine.now) (moment_of c.write_cell.new.machine) w))
    (comes_same (ap (λ t. Sub (Exec c.args.counting.body h) (λ x. bind (meaning.on_normal t x) rest)) (sym k)))) (omega (arith, l))

pub returns-in-Err-clause-moves : goal.returns-in-Err-clause-moves
returns-in-Err-clause-moves c p e =
    let h = here c.args.body.now.home c.args.line in
    let rest = waiting p c.args.body.now in
    let w = subst (λ v. DoesAll {A = Unit {0}} {X = Unit {0}} (λ _. tt)
    (performs (write (moved c.args.body.now.home.base c.args.counting.place) v) (machine_state c.args.machine.now)) (Err c.in-Err.halt)
    (moment_of c.args.machine.now) (moment_of c.write_cell.new.machine)) c.turn_value.ensures
    (subst (λ a. DoesAll {A = Unit {0}} {X = Unit {0}} (λ _. tt) (performs (write a c.turn_value.result) (machine_state c.args.machine.now))
    (Err c.in-Err.halt) (moment_of c.args.machine.now) (moment_of c.write_cell.new.machine)) c.moved-variable.ensures c.in-Err.ensures.action) in
    moves_failed c.fail.ensures.fails c.fail.ensures.line c.fail.ensures.home (fails_after p _ _ _ _ _ c.args.line c.in-Err.halt
    (part_comes p (Count c.args.row c.args.span.value c.args.span.last h) rest (moment_of c.args.machine.now) _
    (ap (meaning.of_count c.args.row h c.args.span.value c.args.span.last) e))
    (fails {X = Unit {0}} p c.args.line (write (moved c.args.body.now.home.base c.args.counting.place) (Value.Number c.args.span.value))
    (λ _. Sub (Exec c.args.counting.body h) (meaning.on_normal (meaning.turn_after c.args.row h c.args.counting.direction c.args.counting.place
    c.args.span.value c.args.span.last))) rest (λ _. tt) c.in-Err.halt (moment_of c.args.machine.now) (moment_of c.write_cell.new.machine) w))
