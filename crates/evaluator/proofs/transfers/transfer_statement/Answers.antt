use Rattle.std.proofs.Common.{arith}
use Rattle.core_program.specs.Output.{end_page}
use Rattle.eval_ops.specs.Machines.{moment_of}
use Rattle.evaluator.proofs.Turning.{moves_by, moves_on}
use Rattle.evaluator.proofs.transfers.transfer_statement.Goals as goal

pub returns-in-Read-clause-moves : goal.returns-in-Read-clause-moves
returns-in-Read-clause-moves c p row =
    moves_by (c.begin_read.ensures.turns p) c.begin_read.ensures.falls c.begin_read.ensures.home (rw c.in-Read.is) (omega arith)

pub returns-in-Write-clause-moves : goal.returns-in-Write-clause-moves
returns-in-Write-clause-moves c p row =
    moves_by (c.begin_write.ensures.turns p) c.begin_write.ensures.falls c.begin_write.ensures.home (rw c.in-Write.is) (omega arith)

pub returns-in-Pack-clause-moves : goal.returns-in-Pack-clause-moves
returns-in-Pack-clause-moves c p row =
    moves_by (c.begin_pack.ensures.turns p) c.begin_pack.ensures.falls c.begin_pack.ensures.home (rw c.in-Pack.is) (omega arith)

pub returns-in-Page-clause-moves : goal.returns-in-Page-clause-moves
returns-in-Page-clause-moves c p row =
    moves_on (c.finally.ensures.moves p end_page (moment_of c.args.machine.now) (moment_of c.end_page-done.new.machine) c.end_page-done.ensures.action) (rw
    c.in-Page.is) (omega arith)
