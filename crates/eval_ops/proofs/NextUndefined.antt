-- Cells that become undefined, at the next one.
use Rattle.std.proofs.Common.{◌+◌, ◌-◌, ◌<◌, ◌≡◌, ℕ, arith, subst, suc}
use Rattle.cell_value.specs.declared.values.Value.TheVariants.{Undefined}
use Rattle.core_program.specs.{Actions.◌>>=◌, Actions.Action, Cells.write, State.moved, Variants.undefine_cells}
use Rattle.eval_ops.proofs.ActionsCompose.{CameTo}
use Rattle.eval_ops.specs.Machines.{Moment}

pub at_undefined : {first : Action (Unit {0})} {m0 m : Moment} (addr cells i : ℕ) → i < cells → CameTo first m0 (undefine_cells addr (cells - i)) m
    → CameTo first m0 (write addr Undefined >>= λ _. undefine_cells (moved addr 1) (cells - (i + 1))) m
at_undefined {first = first} {m0 = m0} {m = m} addr cells i h = subst (λ n. CameTo first m0 (undefine_cells addr n) m)
    (let e : cells - i ≡ suc (cells - (i + 1)) = omega (arith, h) in e)
