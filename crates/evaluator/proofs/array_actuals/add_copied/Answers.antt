use Rattle.std.proofs.Common.{arith, refl}
use Rattle.eval_ops.specs.{Conformant.actual, declared.passed_arrays.ArrayActual.ArrayActual}
use Rattle.evaluator.proofs.Turning.{after_done, after_failed, moves_by}
use Rattle.evaluator.proofs.array_actuals.add_copied.Goals as goal
use Rattle.evaluator.specs.Rest.{array_passed, lists_of, top_passed, under_passed}

pub returns-in-Ok : goal.returns-in-Ok
returns-in-Ok c = record {
  moves = λ a m m' h. let p = c.args.program.now in let b = c.args.body.now in
      after_done {X = ArrayActual} p b c.args.line a (array_passed b.home c.args.next c.args.line (top_passed (lists_of b))) (under_passed p b) _
      actual c.in-Ok.passed m m' (rw c.in-Ok.is at h)
      (moves_by c.add_array.ensures.turns c.add_array.ensures.falls c.add_array.ensures.home refl (omega arith));
}

pub returns-in-Err : goal.returns-in-Err
returns-in-Err c = record {
  moves = λ a m m' h. let p = c.args.program.now in let b = c.args.body.now in
      after_failed {X = ArrayActual} p b c.args.line a (array_passed b.home c.args.next c.args.line (top_passed (lists_of b))) (under_passed p b) _
      actual c.in-Err.halt m m' (rw c.in-Err.is at h) c.fail.ensures.line c.fail.ensures.fails c.fail.ensures.home;
}
