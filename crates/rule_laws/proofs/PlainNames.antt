-- What the steps of `Rattle.check_steps.specs.Names` break.
use Rattle.std.proofs.Common.{ℕ, refl}
use Rattle.check_steps.specs.{Known.find, Known.name_at, Names.is_usable, Names.usable, Names.use_again, Names.use_at}
use Rattle.rule_laws.proofs.Plain.{Aim, Plain, Solely, ask-plain, bind-solely, give-solely, look-solely}

pub use_at-plain : {aim : Aim} (kept : Plain aim) (frame at token : ℕ) → Solely aim (use_at frame at token)
unfolding use_at
use_at-plain kept frame at token = bind-solely (look-solely (λ k. find k frame (name_at k token))) (λ found.
    bind-solely (ask-plain kept _ token (is_usable at found) refl) (λ _. give-solely (usable at found)))

pub use_again-plain : {aim : Aim} (kept : Plain aim) (frame token : ℕ) → Solely aim (use_again frame token)
unfolding use_again
use_again-plain kept frame token = bind-solely (look-solely (λ k. find k frame (name_at k token))) (λ found.
    bind-solely (ask-plain kept _ token (is_usable token found) refl) (λ _. give-solely (usable token found)))
