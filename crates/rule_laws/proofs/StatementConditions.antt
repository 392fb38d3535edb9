-- What the steps of `Rattle.statement_checker.specs.Conditions` touch.
use Rattle.std.proofs.Common.{ℕ, refl}
use Rattle.expression_checker.specs.declared.typed.Typed.{Typed}
use Rattle.statement_checker.specs.Conditions.{condition, is_condition}
use Rattle.rule_laws.proofs.{Every.Of, Faces.Shown, Touches.Touches, Touches.bind-touches, Touches.late-touches, Touches.look-touches}

pub condition-touches : {Q : ℕ → Type 0} {strict : Shown} (first : ℕ) (v : Typed) → Of Q first → Touches Q strict (condition first v)
unfolding condition
condition-touches first v first-in = bind-touches (look-touches (λ k. is_condition k v)) (λ fine. late-touches 17 first fine refl first-in)
