-- What the steps of `Rattle.check_steps.specs.Names` touch.
use Rattle.std.proofs.Common.{ℕ, refl}
use Rattle.check_steps.specs.{Known.find, Known.name_at, Names.is_usable, Names.usable, Names.use_again, Names.use_at}
use Rattle.rule_laws.proofs.{Every.Of, Faces.Shown}
use Rattle.rule_laws.proofs.Touches.{Touches, bind-touches, early-touches, give-touches, late-touches, look-touches}

pub use_at-touches : {Q : ℕ → Type 0} {strict : Shown} (frame : ℕ) (at : ℕ) (token : ℕ) → Of Q token → Touches Q strict (use_at frame at token)
unfolding use_at
use_at-touches frame at token token-in = bind-touches (look-touches (λ k. find k frame (name_at k token))) (λ found.
    bind-touches (early-touches 1 token (is_usable at found) refl token-in) (λ _. give-touches (usable at found)))

pub use_again-touches : {Q : ℕ → Type 0} {strict : Shown} (frame : ℕ) (token : ℕ) → Of Q token → Touches Q strict (use_again frame token)
unfolding use_again
use_again-touches frame token token-in = bind-touches (look-touches (λ k. find k frame (name_at k token))) (λ found.
    bind-touches (late-touches 3 token (is_usable token found) refl token-in) (λ _. give-touches (usable token found)))
