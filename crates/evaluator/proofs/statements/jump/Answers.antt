use Rattle.std.proofs.Common.{ℕ, arith}
use Rattle.core_program.specs.{Cells.frame_out, Tree.Jump, Tree.Ret}
use Rattle.eval_ops.specs.Machines.{moment_of}
use Rattle.evaluator.proofs.{StepsFall.steps_fall, Turning.did, Turning.fails, Turning.moves_after_by, Turning.moves_failed}
use Rattle.evaluator.proofs.statements.jump.Goals as goal
use Rattle.evaluator.specs.Rest.{waiting}

pub returns-in-Ok-clause-moves : goal.returns-in-Ok-clause-moves
returns-in-Ok-clause-moves c p =
    let m = moment_of c.args.machine.now in
    let m' = moment_of c.frame_out.new.machine in
    let l = steps_fall {X = ℕ} (λ b. b) (frame_out c.args.levels c.args.body.now.home.base) c.in-Ok.base (moment_of c.args.machine.now) (moment_of
    c.frame_out.new.machine) c.in-Ok.ensures.action in
    moves_after_by (c.go.ensures.turns p) c.go.ensures.falls c.go.ensures.home (did {X = ℕ} p c.args.line (frame_out c.args.levels c.args.body.now.home.base) (λ
    base. Ret (Jump c.args.label base)) (waiting p c.args.body.now) (λ b. b) c.in-Ok.base m m' c.in-Ok.ensures.action) (omega (arith, l))

pub returns-in-Err-clause-moves : goal.returns-in-Err-clause-moves
returns-in-Err-clause-moves c p =
    let m = moment_of c.args.machine.now in
    let m' = moment_of c.frame_out.new.machine in
    moves_failed c.fail.ensures.fails c.fail.ensures.line c.fail.ensures.home (fails {X = ℕ} p c.args.line (frame_out c.args.levels c.args.body.now.home.base)
    (λ base. Ret (Jump c.args.label base)) (waiting p c.args.body.now) (λ b. b) c.in-Err.halt m m' c.in-Err.ensures.action)
