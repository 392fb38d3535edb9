use Rattle.core_program.specs.{ProgramRows.row_at, Variants.field_at}
use Rattle.eval_ops.specs.Machines.{moment_of}
use Rattle.evaluator.proofs.accesses.locate_field.Goals as goal

pub returns-clause-moves : goal.returns-clause-moves
returns-clause-moves c =
    let p = c.args.program.now in
    c.address.ensures.moves p (field_at p c.args.target c.args.addr (row_at p c.args.field)) (moment_of c.args.machine.now)
    (moment_of c.field_at-found.new.machine) (rw c.row.ensures at c.field_at-found.ensures.action)
