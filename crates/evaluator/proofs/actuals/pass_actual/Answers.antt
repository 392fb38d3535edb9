use Rattle.std.proofs.Common.{◌∙◌, ap, arith, refl, sym}
use Rattle.core_program.specs.{Accesses.with_formal, Cells.routine_out, Expressions.of_actual, Expressions.pass_routine, Tree.bind, declared.rows.Row.Row}
use Rattle.eval_ops.specs.Machines.{moment_of}
use Rattle.evaluator.proofs.Turning.{moves_by, moves_on}
use Rattle.evaluator.proofs.actuals.pass_actual.Goals as goal
use Rattle.evaluator.specs.Rest.{declared, here, lists_of, top_passed, under_passed}

pub returns-in-Value-clause-moves : goal.returns-in-Value-clause-moves
returns-in-Value-clause-moves c = moves_by (c.wait.ensures.turns c.args.program.now) c.wait.ensures.falls c.wait.ensures.home (rw c.in-Value.is) (omega arith)

pub returns-in-Place-clause-moves : goal.returns-in-Place-clause-moves
returns-in-Place-clause-moves c =
    moves_by (c.wait-in-Place.ensures.turns c.args.program.now) c.wait-in-Place.ensures.falls c.wait-in-Place.ensures.home (rw c.in-Place.is) (omega arith)

pub returns-in-ArrayPlace-clause-moves : goal.returns-in-ArrayPlace-clause-moves
returns-in-ArrayPlace-clause-moves c =
    moves_by c.pass_conformant.ensures.turns c.pass_conformant.ensures.falls c.pass_conformant.ensures.home refl (omega arith)

pub returns-in-ArrayValue-clause-moves : goal.returns-in-ArrayValue-clause-moves
returns-in-ArrayValue-clause-moves c =
    moves_by c.pass_conformant-in-ArrayValue.ensures.turns c.pass_conformant-in-ArrayValue.ensures.falls c.pass_conformant-in-ArrayValue.ensures.home refl
    (omega arith)

pub returns-in-Routine-clause-moves : goal.returns-in-Routine-clause-moves
returns-in-Routine-clause-moves c =
    moves_on (c.add_routine.ensures.moves (declared c.in-Routine.routine c.in-Routine.levels c.args.body.now.home.base) (moment_of c.args.machine.now)
    (moment_of c.routine_in-found.new.machine) c.routine_in-found.ensures.action) (rw c.in-Routine.is) (omega arith)

pub returns-in-RoutineFormal-clause-moves : goal.returns-in-RoutineFormal-clause-moves
returns-in-RoutineFormal-clause-moves c =
    let p = c.args.program.now in
    let a = c.args.body.now in
    let h = here a.home c.args.line in
    let i = c.in-RoutineFormal in
    let passed = top_passed (lists_of a) in
    moves_on c.pass_formal.ensures.moves (ap (λ i. bind (of_actual p passed h (Row.Item i)) (under_passed p a)) i.is ∙ ap (λ r. bind (with_formal r
    (λ place heading. pass_routine h i.next passed (routine_out p heading i.levels a.home.base place))) (under_passed p a)) (sym c.row-formal.ensures))
    (omega arith)
