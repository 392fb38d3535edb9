use Rattle.std.proofs.Common.{◌∙◌, ◌≡◌, ℕ, Some, ap, arith, refl, sym}
use Rattle.core_program.specs.{Cells.frame_out, Expressions.entering, Expressions.with_frame_size, ProgramRows.routine_at, Tree.Enter, Tree.bind, Tree.doing}
use Rattle.eval_ops.specs.Machines.{moment_of}
use Rattle.evaluator.proofs.{Moves.comes_same, Moves.comes_then, StepsFall.steps_fall}
use Rattle.evaluator.proofs.Turning.{did, fails, fails_after, moves_after, moves_failed}
use Rattle.evaluator.proofs.calls.call.Goals as goal
use Rattle.evaluator.specs.Rest.{after_call, lists_of, top_passed, under_passed}

pub returns-in-Ok-clause-moves : goal.returns-in-Ok-clause-moves
returns-in-Ok-clause-moves c =
    let p = c.args.program.now in
    let a = c.args.body.now in
    let K = under_passed p a in
    let passed = top_passed (lists_of a) in
    let r = c.in-Some.found in
    let h : routine_at p c.args.routine ≡ Some r = sym c.routine.ensures ∙ c.in-Some.is in
    moves_after (c.enter.ensures.moves p r h refl) (comes_then (comes_same
    (ap (λ x. bind (with_frame_size x (λ cells. doing c.args.line (frame_out c.args.levels a.home.base)
    (λ frame. Enter (entering c.args.routine cells frame passed) (after_call c.args.procedure)))) K) h))
    (did {X = ℕ} p c.args.line (frame_out c.args.levels a.home.base)
    (λ frame. Enter (entering c.args.routine r.cells frame passed) (after_call c.args.procedure)) K (λ b. b) c.in-Ok.frame
    (moment_of c.args.machine.now) (moment_of c.frame_out.new.machine) c.in-Ok.ensures.action))
    (omega (
      arith,
      steps_fall {X = ℕ} (λ b. b) (frame_out c.args.levels a.home.base) c.in-Ok.frame (moment_of c.args.machine.now)
          (moment_of c.frame_out.new.machine) c.in-Ok.ensures.action,
    ))

pub returns-in-Err-clause-moves : goal.returns-in-Err-clause-moves
returns-in-Err-clause-moves c =
    let p = c.args.program.now in
    let a = c.args.body.now in
    let K = under_passed p a in
    let passed = top_passed (lists_of a) in
    let r = c.in-Some.found in
    let h : routine_at p c.args.routine ≡ Some r = sym c.routine.ensures ∙ c.in-Some.is in
    moves_failed c.fail.ensures.fails c.fail.ensures.line c.fail.ensures.home (fails_after p _ _ _ _ _ c.args.line c.in-Err.halt (comes_same (ap (λ x. bind
    (with_frame_size x (λ cells. doing c.args.line (frame_out c.args.levels a.home.base) (λ frame. Enter (entering c.args.routine cells frame passed)
    (after_call c.args.procedure)))) K) h)) (fails {X = ℕ} p c.args.line (frame_out c.args.levels a.home.base)
    (λ frame. Enter (entering c.args.routine r.cells frame passed) (after_call c.args.procedure)) K (λ b. b) c.in-Err.halt (moment_of c.args.machine.now)
    (moment_of c.frame_out.new.machine)
    c.in-Err.ensures.action))
