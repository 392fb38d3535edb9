use Rattle.std.proofs.Common.{arith}
use Rattle.evaluator.proofs.Turning.{moves_by, moves_on}
use Rattle.evaluator.proofs.statements.carry_on.Goals as goal

pub returns-in-Assign-clause-moves : goal.returns-in-Assign-clause-moves
returns-in-Assign-clause-moves c = moves_by (c.wait.ensures.turns c.args.program.now) c.wait.ensures.falls c.wait.ensures.home (rw c.in-Assign.is) (omega arith)

pub returns-in-If-clause-moves : goal.returns-in-If-clause-moves
returns-in-If-clause-moves c =
    moves_by (c.conditional.ensures.turns c.args.program.now c.args.row) c.conditional.ensures.falls c.conditional.ensures.home (rw c.in-If.is) (omega arith)

pub returns-in-IfElse-clause-moves : goal.returns-in-IfElse-clause-moves
returns-in-IfElse-clause-moves c =
    moves_by (c.conditional-in-IfElse.ensures.turns c.args.program.now c.args.row) c.conditional-in-IfElse.ensures.falls c.conditional-in-IfElse.ensures.home
    (rw c.in-IfElse.is) (omega arith)

pub returns-in-Case-clause-moves : goal.returns-in-Case-clause-moves
returns-in-Case-clause-moves c =
    moves_by (c.conditional-in-Case.ensures.turns c.args.program.now c.args.row) c.conditional-in-Case.ensures.falls c.conditional-in-Case.ensures.home (rw
    c.in-Case.is) (omega arith)

pub returns-in-Repeat-clause-moves : goal.returns-in-Repeat-clause-moves
returns-in-Repeat-clause-moves c = moves_by c.repetitive.ensures.turns c.repetitive.ensures.falls c.repetitive.ensures.home (rw c.in-Repeat.is) (omega arith)

pub returns-in-While-clause-moves : goal.returns-in-While-clause-moves
returns-in-While-clause-moves c =
    moves_by c.repetitive-in-While.ensures.turns c.repetitive-in-While.ensures.falls c.repetitive-in-While.ensures.home (rw c.in-While.is) (omega arith)

pub returns-in-For-clause-moves : goal.returns-in-For-clause-moves
returns-in-For-clause-moves c =
    moves_by c.repetitive-in-For.ensures.turns c.repetitive-in-For.ensures.falls c.repetitive-in-For.ensures.home (rw c.in-For.is) (omega arith)

pub returns-in-With-clause-moves : goal.returns-in-With-clause-moves
returns-in-With-clause-moves c = moves_by c.begin_record.ensures.turns c.begin_record.ensures.falls c.begin_record.ensures.home (rw c.in-With.is) (omega arith)

pub returns-in-Goto-clause-moves : goal.returns-in-Goto-clause-moves
returns-in-Goto-clause-moves c = moves_on (c.jump.ensures.moves c.args.program.now) (rw c.in-Goto.is) (omega arith)

pub returns-in-Call-clause-moves : goal.returns-in-Call-clause-moves
returns-in-Call-clause-moves c =
    moves_by (c.procedure_statement.ensures.turns c.args.program.now c.args.row) c.procedure_statement.ensures.falls c.procedure_statement.ensures.home (rw
    c.in-Call.is) (omega arith)

pub returns-in-CallFormal-clause-moves : goal.returns-in-CallFormal-clause-moves
returns-in-CallFormal-clause-moves c =
    moves_by (c.procedure_statement-in-CallFormal.ensures.turns c.args.program.now c.args.row) c.procedure_statement-in-CallFormal.ensures.falls
    c.procedure_statement-in-CallFormal.ensures.home (rw c.in-CallFormal.is) (omega arith)

pub returns-in-New-clause-moves : goal.returns-in-New-clause-moves
returns-in-New-clause-moves c = moves_on (c.heap_statement.ensures.moves c.args.row) (rw c.in-New.is) (omega arith)

pub returns-in-Dispose-clause-moves : goal.returns-in-Dispose-clause-moves
returns-in-Dispose-clause-moves c = moves_on (c.heap_statement-in-Dispose.ensures.moves c.args.row) (rw c.in-Dispose.is) (omega arith)

pub returns-in-Read-clause-moves : goal.returns-in-Read-clause-moves
returns-in-Read-clause-moves c = moves_on (c.transfer_statement.ensures.moves c.args.program.now c.args.row) (rw c.in-Read.is) (omega arith)

pub returns-in-Write-clause-moves : goal.returns-in-Write-clause-moves
returns-in-Write-clause-moves c = moves_on (c.transfer_statement-in-Write.ensures.moves c.args.program.now c.args.row) (rw c.in-Write.is) (omega arith)

pub returns-in-Page-clause-moves : goal.returns-in-Page-clause-moves
returns-in-Page-clause-moves c = moves_on (c.transfer_statement-in-Page.ensures.moves c.args.program.now c.args.row) (rw c.in-Page.is) (omega arith)

pub returns-in-Pack-clause-moves : goal.returns-in-Pack-clause-moves
returns-in-Pack-clause-moves c = moves_on (c.transfer_statement-in-Pack.ensures.moves c.args.program.now c.args.row) (rw c.in-Pack.is) (omega arith)
