use Rattle.std.proofs.Common.{ap, arith}
use Rattle.core_program.specs.{Input.at_end, Input.at_line_end, Tree.bind}
use Rattle.eval_ops.specs.Machines.{moment_of}
use Rattle.evaluator.proofs.{ExpressionsByRow.other_operation, Turning.moves_by, Turning.moves_on}
use Rattle.evaluator.proofs.expressions.begin_stepped.Goals as goal
use Rattle.evaluator.specs.Rest.{here, waiting}

pub returns-in-Eof-clause-moves : goal.returns-in-Eof-clause-moves
returns-in-Eof-clause-moves c =
    moves_on (c.scalar.ensures.moves c.args.program.now at_end (moment_of c.args.machine.now) (moment_of c.at_end-done.new.machine)
    c.at_end-done.ensures.action) (rw c.in-Eof.is) (omega arith)

pub returns-in-Eoln-clause-moves : goal.returns-in-Eoln-clause-moves
returns-in-Eoln-clause-moves c =
    moves_on (c.scalar-in-Eoln.ensures.moves c.args.program.now at_line_end (moment_of c.args.machine.now) (moment_of c.at_line_end-done.new.machine)
    c.at_line_end-done.ensures.action) (rw c.in-Eoln.is) (omega arith)

pub returns-in_default-clause-moves : goal.returns-in_default-clause-moves
returns-in_default-clause-moves c =
    let p = c.args.program.now in
    let h = here c.args.body.now.home c.args.line in
    moves_by c.begin_expression.ensures.turns c.begin_expression.ensures.falls c.begin_expression.ensures.home (ap (λ t. bind t (waiting p c.args.body.now))
    (other_operation p h c.args.expression c.in_default.not-Eof c.in_default.not-Eoln)) (omega arith)
