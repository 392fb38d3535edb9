use Rattle.std.proofs.Common.{ℕ, arith}
use Rattle.core_program.specs.Tree.{Bounded, Ret, doing}
use Rattle.eval_ops.specs.{Conformant.conformant_out, Machines.moment_of}
use Rattle.evaluator.proofs.Turning.{moves_after, spent, spent_less}
use Rattle.evaluator.proofs.conformant.conformant.Goals as goal
use Rattle.evaluator.specs.Rest.{here, waiting}

pub returns-in-Ok-clause-moves : goal.returns-in-Ok-clause-moves
returns-in-Ok-clause-moves c =
    let p = c.args.program.now in
    let a = c.args.body.now in
    let out = conformant_out c.args.levels a.home.base c.args.place in
    moves_after (c.bounded.ensures.moves p out _ _ c.conformant_out.ensures.action)
    (spent p (here a.home c.args.line) (doing c.args.line out (λ (x : ℕ × ℕ). Ret (Bounded x.0 x.1))) (waiting p a) (moment_of c.args.machine.now)
    (moment_of c.spend.new.machine) c.in-Ok.ensures.act)
    (omega (arith, spent_less (moment_of c.args.machine.now) (moment_of c.spend.new.machine) c.in-Ok.ensures.act))
