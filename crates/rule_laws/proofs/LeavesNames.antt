-- What the steps of `Rattle.check_steps.specs.Names` leave at other tokens.
use Rattle.std.proofs.Common.{ℕ, is_none}
use Rattle.check_steps.specs.{Known.find, Known.name_at, Regions.declared_in, Regions.defined_in, declared.regions.Definition.Definition}
use Rattle.check_steps.specs.Names.{declare_in, define_in, is_usable, usable, use_again, use_at}
use Rattle.rule_laws.proofs.{Every.Of, Leaves.when-leaves}
use Rattle.rule_laws.proofs.Leaves.{Leaves, add_definition-leaves, add_label-leaves, bind-leaves, early-leaves, give-leaves, late-leaves, look-leaves}

pub define_in-leaves : {Q : ℕ → Type 0} (region : ℕ) (d : Definition) → Of Q d.token → Leaves Q (define_in region d)
unfolding define_in
define_in-leaves region d d-in = bind-leaves (look-leaves (λ k. name_at k d.token)) (λ name. bind-leaves (look-leaves (λ k. defined_in k.regions region name))
    (λ held. bind-leaves (early-leaves 2 d.token (is_none held) d-in) (λ _. when-leaves (is_none held) (add_definition-leaves region name d))))

pub declare_in-leaves : {Q : ℕ → Type 0} (region : ℕ) (value : ℕ) (token : ℕ) → Of Q token → Leaves Q (declare_in region value token)
unfolding declare_in
declare_in-leaves region value token token-in = bind-leaves (look-leaves (λ k. declared_in k.regions region value)) (λ held.
    bind-leaves (early-leaves 2 token (is_none held) token-in) (λ _. when-leaves (is_none held) (add_label-leaves region value token)))

pub use_at-leaves : {Q : ℕ → Type 0} (frame : ℕ) (at : ℕ) (token : ℕ) → Of Q token → Leaves Q (use_at frame at token)
unfolding use_at
use_at-leaves frame at token token-in = bind-leaves (look-leaves (λ k. find k frame (name_at k token))) (λ found.
    bind-leaves (early-leaves 1 token (is_usable at found) token-in) (λ _. give-leaves (usable at found)))

pub use_again-leaves : {Q : ℕ → Type 0} (frame : ℕ) (token : ℕ) → Of Q token → Leaves Q (use_again frame token)
unfolding use_again
use_again-leaves frame token token-in = bind-leaves (look-leaves (λ k. find k frame (name_at k token))) (λ found.
    bind-leaves (late-leaves 3 token (is_usable token found) token-in) (λ _. give-leaves (usable token found)))
