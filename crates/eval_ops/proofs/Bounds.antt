-- Bounds that are handed on as machine words.
use Rattle.std.proofs.{Common.ℤ, Common.Result, Common.subst, lemmas.Int.to_z-of_z}
use mir.Syntax.{w32}
use mir.Val.{SFits, of_z, to_z}
use Rattle.cell_value.specs.declared.values.Value.{Value}
use Rattle.core_program.specs.Actions.{Action}
use Rattle.eval_ops.specs.{Machines.Gives, declared.halt.Halt.Halt}

abbrev word : ℤ → ℤ
word n = to_z w32 (of_z w32 n)

pub within_bounds : (f : ℤ → ℤ → Action Value) (least greatest : ℤ) (r : Result Value Halt) → SFits w32 least → SFits w32 greatest
    → Gives (λ v. v) (f (word least) (word greatest)) r → Gives (λ v. v) (f least greatest) r
within_bounds f least greatest r a b h = subst (λ n. Gives (λ v. v) (f n greatest) r) (to_z-of_z w32 least a)
    (subst (λ n. Gives (λ v. v) (f (word least) n) r) (to_z-of_z w32 greatest b) h)
