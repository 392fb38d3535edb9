use Rattle.std.proofs.Common.{◌∙◌, ◌≡◌, ℕ, Some, ap, arith, refl, sym}
use Rattle.core_program.specs.{Expressions.enter, Expressions.entering, Expressions.with_frame_size, ProgramRows.routine_at, Tree.Enter, Tree.bind}
use Rattle.eval_ops.specs.Machines.{moment_of}
use Rattle.evaluator.proofs.Turning.{after_done, after_failed, moves_on}
use Rattle.evaluator.proofs.calls.enter_found.Goals as goal
use Rattle.evaluator.specs.Rest.{after_call, lists_of, top_passed, under_passed}

pub returns-in-Some : goal.returns-in-Some
returns-in-Some c = record {
  moves = λ does m d. let p = c.args.program.now in let a = c.args.body.now in let passed = top_passed (lists_of a) in let r = c.in-Some.found in
      let h : routine_at p c.in-Ok.routine ≡ Some r = sym c.routine.ensures ∙ c.in-Some.is in
      after_done {X = ℕ × ℕ} p a c.args.line does (λ x. enter p x.0 x.1 passed (after_call c.args.procedure)) (under_passed p a) 0 (λ x. x)
      (c.in-Ok.routine, c.in-Ok.frame) m (moment_of c.args.machine.now) (rw c.in-Ok.is at d)
      (moves_on (c.enter.ensures.moves p r h refl) (ap (λ x. bind (with_frame_size x (λ cells.
      Enter (entering c.in-Ok.routine cells c.in-Ok.frame passed) (after_call c.args.procedure))) (under_passed p a)) h) (omega arith));
}

pub returns-in-Err : goal.returns-in-Err
returns-in-Err c = record {
  moves = λ does m d. let p = c.args.program.now in let a = c.args.body.now in
      after_failed {X = ℕ × ℕ} p a c.args.line does (λ x. enter p x.0 x.1 (top_passed (lists_of a)) (after_call c.args.procedure)) (under_passed p a) 0 (λ x. x)
      c.in-Err.halt m (moment_of c.args.machine.now) (rw c.in-Err.is at d) c.fail.ensures.line c.fail.ensures.fails c.fail.ensures.home;
}
