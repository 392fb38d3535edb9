-- What the steps of `Rattle.kind_checker.specs.Types` touch.
use Rattle.std.proofs.Common.{if◌then◌else◌, ℕ, refl}
use Rattle.check_steps.specs.Known.{type_at}
use Rattle.kind_checker.specs.{Sizes.is_ordinal, Types.is_type_name, Types.named_type, Types.ordinal, Types.type_of}
use Rattle.rule_laws.proofs.{CheckNames.use_at-touches, Every.Of, Faces.Shown}
use Rattle.rule_laws.proofs.Touches.{Touches, bind-touches, give-touches, late-touches, look-touches}

pub named_type-touches : {Q : ℕ → Type 0} {strict : Shown} (frame : ℕ) (token : ℕ) → Of Q token → Touches Q strict (named_type frame token)
unfolding named_type
named_type-touches frame token token-in = bind-touches (use_at-touches frame token token token-in) (λ found.
    bind-touches (late-touches 3 token (is_type_name found) refl token-in) (λ _. look-touches (λ k. type_of k found token)))

pub ordinal-touches : {Q : ℕ → Type 0} {strict : Shown} (first : ℕ) (unknown : ℕ) (t : ℕ) → Of Q first → Touches Q strict (ordinal first unknown t)
unfolding ordinal
ordinal-touches first unknown t first-in = bind-touches (look-touches (λ k. is_ordinal (type_at k t)))
    (λ fine. bind-touches (late-touches 6 first fine refl first-in)
    (λ _. give-touches (if fine then t else unknown)))
