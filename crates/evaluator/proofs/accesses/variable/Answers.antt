use Rattle.std.proofs.Common.{arith}
use Rattle.core_program.specs.{Accesses.address, Cells.cell_out, Tree.doing}
use Rattle.eval_ops.specs.Machines.{moment_of}
use Rattle.evaluator.proofs.Turning.{moves_after, spent, spent_less}
use Rattle.evaluator.proofs.accesses.variable.Goals as goal
use Rattle.evaluator.specs.Rest.{here, waiting}

pub returns-in-Ok-clause-moves : goal.returns-in-Ok-clause-moves
returns-in-Ok-clause-moves c =
    moves_after (c.address.ensures.moves c.args.program.now (cell_out c.args.levels c.args.body.now.home.base c.args.place) _ _ c.cell_out.ensures.action)
    (spent c.args.program.now (here c.args.body.now.home c.args.line) (doing c.args.line (cell_out c.args.levels c.args.body.now.home.base c.args.place)
    address) (waiting c.args.program.now c.args.body.now) (moment_of c.args.machine.now) (moment_of c.spend.new.machine) c.in-Ok.ensures.act)
    (omega (arith, spent_less (moment_of c.args.machine.now) (moment_of c.spend.new.machine) c.in-Ok.ensures.act))
