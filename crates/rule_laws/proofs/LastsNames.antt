-- What the steps of `Rattle.check_steps.specs.Names` leave as it was.
use Rattle.std.proofs.Common.{ℕ}
use Rattle.pas_tree.specs.BlockTrees.{RoutineTree}
use Rattle.check_steps.specs.{Known.Known, Known.find, Known.name_at, Names.is_usable, Names.usable, Names.use_again, Names.use_at}
use Rattle.rule_laws.proofs.Keeping.{Keeps, ask-keeps, bind-keeps, give-keeps, look-keeps}
use Rattle.rule_laws.proofs.Lasting.{Lasting}

pub use_at-lasts : {G : RoutineTree → Type 0} {I : Known → Type 0} (kept : Lasting G I) (frame at token : ℕ) → Keeps I (use_at frame at token)
unfolding use_at
use_at-lasts kept frame at token = bind-keeps (look-keeps (λ k. find k frame (name_at k token))) (λ found.
    bind-keeps (ask-keeps _ token (is_usable at found)) (λ _. give-keeps (usable at found)))

pub use_again-lasts : {G : RoutineTree → Type 0} {I : Known → Type 0} (kept : Lasting G I) (frame token : ℕ) → Keeps I (use_again frame token)
unfolding use_again
use_again-lasts kept frame token = bind-keeps (look-keeps (λ k. find k frame (name_at k token))) (λ found.
    bind-keeps (ask-keeps _ token (is_usable token found)) (λ _. give-keeps (usable token found)))
