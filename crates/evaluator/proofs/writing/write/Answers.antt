use Rattle.std.proofs.Common.{arith, refl}
use Rattle.core_program.specs.{Output.scalar_text, Output.written, Tree.Print, Tree.Ret, Tree.Sub}
use Rattle.eval_ops.specs.Machines.{moment_of}
use Rattle.evaluator.proofs.Turning.{moves_on}
use Rattle.evaluator.proofs.writing.write.Goals as goal
use Rattle.evaluator.specs.Rest.{here}

pub returns-clause-moves : goal.returns-clause-moves
returns-clause-moves c p =
    let h = here c.args.body.now.home c.args.line in
    moves_on (c.go_after.ensures.moves p (written (scalar_text c.args.host c.args.value) c.args.width) (Sub (Print c.args.next h) Ret) (moment_of
    c.args.machine.now) (moment_of c.write_scalar-done.new.machine) refl c.write_scalar-done.ensures.action) refl (omega arith)
