use Rattle.std.proofs.Common.{arith}
use Rattle.core_program.specs.{Accesses.component_found, Accesses.eval, Accesses.is_conformant, Tree.doing}
use Rattle.eval_ops.specs.{Conformant.conformant_component, Machines.moment_of}
use Rattle.evaluator.proofs.Turning.{moves_after_by, spent, spent_less}
use Rattle.evaluator.proofs.conformant.bounded_index.Goals as goal
use Rattle.evaluator.specs.Rest.{here, waiting}

pub returns-in-Ok-clause-moves : goal.returns-in-Ok-clause-moves
returns-in-Ok-clause-moves c p =
    let a = c.args.body.now in
    let h = here a.home c.args.line in
    moves_after_by (c.wait.ensures.turns p) c.wait.ensures.falls c.wait.ensures.home (spent p h (eval c.args.index h (λ v.
    doing c.args.line (conformant_component p c.args.array c.args.addr c.args.frame v) (component_found (is_conformant p c.args.of) c.args.frame)))
    (waiting p a) (moment_of c.args.machine.now) (moment_of c.spend.new.machine) c.in-Ok.ensures.act)
    (omega (arith, spent_less (moment_of c.args.machine.now) (moment_of c.spend.new.machine) c.in-Ok.ensures.act))
