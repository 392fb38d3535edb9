use Rattle.std.proofs.Common.{sym}
use Rattle.cell_value.specs.declared.values.Value.{Value}
use Rattle.core_program.specs.{Accesses.scalar, Tree.Ret, Tree.Scalar, Tree.doing}
use Rattle.evaluator.proofs.Moves.{bind_ret, comes_same, end_here, finished, stops_then}
use Rattle.evaluator.proofs.Turning.{fails, fails_after, turns_failed}
use Rattle.evaluator.proofs.returns.give.Goals as goal

pub returns-in-Ok-clause-turns : goal.returns-in-Ok-clause-turns
returns-in-Ok-clause-turns c p a m m' h = (
  stops_then (finished c.args.line a scalar c.in-Ok.value m m' (rw c.in-Ok.is at h))
      (end_here (Scalar c.in-Ok.value) m'),
  tt,
)

pub returns-in-Err-clause-turns : goal.returns-in-Err-clause-turns
returns-in-Err-clause-turns c p a m m' h = turns_failed p _ m m' c.args.line c.in-Err.halt c.fail.new.self c.fail.result c.fail.ensures.line
    c.fail.ensures.fails
    (fails_after p _ _ m m m' c.args.line c.in-Err.halt (comes_same (sym (bind_ret (doing c.args.line a scalar))))
    (fails {X = Value} p c.args.line a scalar Ret (λ v. v) c.in-Err.halt m m' (rw c.in-Err.is at h)))
