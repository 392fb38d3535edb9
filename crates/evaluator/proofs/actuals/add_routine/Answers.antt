use Rattle.std.proofs.Common.{◌∷◌, [], ℕ, arith}
use Rattle.cell_value.specs.declared.values.Value.{Value}
use Rattle.core_program.specs.{Acts.Spend, Passed.and_cells}
use Rattle.evaluator.proofs.{StepsFall.first_falls, Turning.after_failed, Turning.did, Turning.moves_after_by}
use Rattle.evaluator.proofs.actuals.add_routine.Goals as goal
use Rattle.evaluator.specs.Rest.{lists_of, paid, pass, top_passed, under_passed}

pub returns-in-Ok : goal.returns-in-Ok
returns-in-Ok c = record {
  moves = λ a m m' h. let b = c.args.body.now in let d = rw c.in-Ok.is at h in
      let l = first_falls {X = ℕ × ℕ} (λ x. x) (Spend 1) (λ _. a) (c.in-Ok.routine, c.in-Ok.frame) m m' d in
      moves_after_by c.add_cell.ensures.turns c.add_cell.ensures.falls c.add_cell.ensures.home
      (did {X = ℕ × ℕ} c.args.program.now c.args.line (paid a) (λ x. pass b.home c.args.next c.args.line
      (and_cells (top_passed (lists_of b)) (Value.Routine x.0 x.1 ∷ [])))
      (under_passed c.args.program.now b) (λ x. x) (c.in-Ok.routine, c.in-Ok.frame) m m' d) (omega (arith, l));
}

pub returns-in-Err : goal.returns-in-Err
returns-in-Err c = record {
  moves = λ a m m' h. let b = c.args.body.now in
      after_failed {X = ℕ × ℕ} c.args.program.now b c.args.line (paid a)
      (λ x. pass b.home c.args.next c.args.line (and_cells (top_passed (lists_of b)) (Value.Routine x.0 x.1 ∷ []))) (under_passed c.args.program.now b) 0
      (λ x. x)
      c.in-Err.halt
      m m' (rw c.in-Err.is at h) c.fail.ensures.line c.fail.ensures.fails c.fail.ensures.home;
}
