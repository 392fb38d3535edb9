use Rattle.std.proofs.Common.{arith}
use Rattle.core_program.specs.{Accesses.address, Heap.pointed_at, Tree.doing}
use Rattle.eval_ops.specs.Machines.{moment_of}
use Rattle.evaluator.proofs.Turning.{moves_after, spent, spent_less}
use Rattle.evaluator.proofs.accesses.follow_pointer.Goals as goal
use Rattle.evaluator.specs.Rest.{here, waiting}

pub returns-in-Ok-clause-moves : goal.returns-in-Ok-clause-moves
returns-in-Ok-clause-moves c p =
    moves_after (c.address.ensures.moves p (pointed_at c.args.addr) _ _ c.pointed_at.ensures.action) (spent p (here c.args.body.now.home c.args.line) (doing
    c.args.line (pointed_at c.args.addr) address) (waiting p c.args.body.now) (moment_of c.args.machine.now) (moment_of c.spend.new.machine)
    c.in-Ok.ensures.act) (omega (arith, spent_less (moment_of c.args.machine.now) (moment_of c.spend.new.machine) c.in-Ok.ensures.act))
