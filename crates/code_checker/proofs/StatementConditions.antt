-- What the steps of `Rattle.statement_checker.specs.Conditions` keep.
use Rattle.std.proofs.Common.{◌<◌, ℕ, Bool, refl}
use Rattle.expression_checker.specs.declared.typed.Typed.{Typed}
use Rattle.statement_checker.specs.Conditions.{condition, is_condition}
use Rattle.code_checker.proofs.Steps.{Holds, bind-holds, late-holds, look-holds}

pub condition-holds : {size : ℕ} {later : Bool} (first : ℕ) (v : Typed) → first < size → Holds size later (condition first v)
unfolding condition
condition-holds first v first-in = bind-holds (look-holds (λ k. is_condition k v)) (λ fine. late-holds 17 first fine refl first-in)
