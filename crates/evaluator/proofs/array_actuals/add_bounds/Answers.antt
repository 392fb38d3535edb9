use Rattle.std.proofs.Common.{List, arith, refl}
use Rattle.cell_value.specs.declared.values.Value.{Value}
use Rattle.evaluator.proofs.Turning.{after_done, after_failed, moves_by}
use Rattle.evaluator.proofs.array_actuals.add_bounds.Goals as goal
use Rattle.evaluator.specs.Rest.{lists_of, place_passed, top_passed, under_passed}

pub returns-in-Ok : goal.returns-in-Ok
returns-in-Ok c = record {
  moves = λ a m m' h. let p = c.args.program.now in let b = c.args.body.now in
      after_done {X = List Value} p b c.args.line a (place_passed b.home c.args.next c.args.line (top_passed (lists_of b)) c.args.addr) (under_passed p b) _
      (λ vs. vs) c.in-Ok.bounds m m' (rw c.in-Ok.is at h)
      (moves_by c.add_place.ensures.turns c.add_place.ensures.falls c.add_place.ensures.home refl (omega arith));
}

pub returns-in-Err : goal.returns-in-Err
returns-in-Err c = record {
  moves = λ a m m' h. let p = c.args.program.now in let b = c.args.body.now in
      after_failed {X = List Value} p b c.args.line a (place_passed b.home c.args.next c.args.line (top_passed (lists_of b)) c.args.addr) (under_passed p b) _
      (λ vs. vs) c.in-Err.halt m m' (rw c.in-Err.is at h) c.fail.ensures.line c.fail.ensures.fails c.fail.ensures.home;
}
