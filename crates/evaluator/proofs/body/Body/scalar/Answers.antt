use Rattle.std.proofs.Common.{arith, refl}
use Rattle.cell_value.specs.declared.values.Value.{Value}
use Rattle.core_program.specs.Accesses.{scalar}
use Rattle.evaluator.proofs.Turning.{after_done, after_failed, moves_by}
use Rattle.evaluator.proofs.body.Body.scalar.Goals as goal
use Rattle.evaluator.specs.Rest.{waiting}

pub returns-in-Ok-clause-moves : goal.returns-in-Ok-clause-moves
returns-in-Ok-clause-moves c p a m m' h =
    after_done {X = Value} p c.args.self.now c.args.line a scalar (waiting p c.args.self.now) _ (λ v. v) c.in-Ok.value m m' (rw c.in-Ok.is at h)
    (moves_by (c.go.ensures.turns p) c.go.ensures.falls c.go.ensures.home refl (omega arith))

pub returns-in-Err-clause-moves : goal.returns-in-Err-clause-moves
returns-in-Err-clause-moves c p a m m' h =
    after_failed {X = Value} p c.args.self.now c.args.line a scalar (waiting p c.args.self.now) _ (λ v. v) c.in-Err.halt m m' (rw c.in-Err.is at h)
    c.fail.ensures.line c.fail.ensures.fails c.fail.ensures.home
