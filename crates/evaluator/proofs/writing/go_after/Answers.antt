use Rattle.std.proofs.Common.{arith}
use Rattle.evaluator.proofs.Turning.{after_done, after_failed, moves_by}
use Rattle.evaluator.proofs.writing.go_after.Goals as goal
use Rattle.evaluator.specs.Rest.{waiting}

pub returns-in-Ok : goal.returns-in-Ok
returns-in-Ok c = record {
  moves = λ p a t m m' e h. after_done {X = Unit {0}} p c.args.body.now c.args.line a (λ _. t) (waiting p c.args.body.now) _ (λ _. tt) c.in-Ok.field-0 m m'
      (rw c.in-Ok.is at h) (moves_by (c.go.ensures.turns p) c.go.ensures.falls c.go.ensures.home e (omega arith));
}

pub returns-in-Err : goal.returns-in-Err
returns-in-Err c = record {
  moves = λ p a t m m' e h. after_failed {X = Unit {0}} p c.args.body.now c.args.line a (λ _. t) (waiting p c.args.body.now) _ (λ _. tt) c.in-Err.halt m m'
      (rw c.in-Err.is at h) c.fail.ensures.line c.fail.ensures.fails c.fail.ensures.home;
}
