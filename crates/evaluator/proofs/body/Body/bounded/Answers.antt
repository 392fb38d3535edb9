use Rattle.std.proofs.Common.{ℕ, arith, refl}
use Rattle.core_program.specs.Tree.{Bounded, Ret}
use Rattle.evaluator.proofs.Turning.{after_done, after_failed, moves_by}
use Rattle.evaluator.proofs.body.Body.bounded.Goals as goal
use Rattle.evaluator.specs.Rest.{waiting}

pub returns-in-Ok-clause-moves : goal.returns-in-Ok-clause-moves
returns-in-Ok-clause-moves c p a m m' h =
    after_done {X = ℕ × ℕ} p c.args.self.now c.args.line a (λ x. Ret (Bounded x.0 x.1)) (waiting p c.args.self.now) _ (λ x. x)
    (c.in-Ok.addr, c.in-Ok.frame) m m' (rw c.in-Ok.is at h)
    (moves_by (c.go.ensures.turns p) c.go.ensures.falls c.go.ensures.home refl (omega arith))

pub returns-in-Err-clause-moves : goal.returns-in-Err-clause-moves
returns-in-Err-clause-moves c p a m m' h =
    after_failed {X = ℕ × ℕ} p c.args.self.now c.args.line a (λ x. Ret (Bounded x.0 x.1)) (waiting p c.args.self.now) _ (λ x. x) c.in-Err.halt m m'
    (rw c.in-Err.is at h) c.fail.ensures.line c.fail.ensures.fails c.fail.ensures.home
