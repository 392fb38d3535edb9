-- What the steps of `Rattle.check_steps.specs.Names` keep.
use Rattle.std.proofs.Common.{◌<◌, ℕ, Bool, false, is_none, refl}
use Rattle.check_steps.specs.{Known.find, Known.name_at, Regions.declared_in, Regions.defined_in, declared.regions.Definition.Definition}
use Rattle.check_steps.specs.Names.{declare_in, define_in, is_usable, usable, use_again, use_at}
use Rattle.code_checker.proofs.Steps.{Holds, add_definition-holds, add_label-holds, bind-holds, early-holds, give-holds, late-holds, look-holds, when-holds}

pub define_in-holds : {size : ℕ} (region : ℕ) (d : Definition) → d.token < size → Holds size false (define_in region d)
unfolding define_in
define_in-holds region d d-in = bind-holds (look-holds (λ k. name_at k d.token)) (λ name. bind-holds (look-holds (λ k. defined_in k.regions region name))
    (λ held. bind-holds (early-holds 2 d.token (is_none held) refl d-in) (λ _. when-holds (is_none held) (add_definition-holds region name d))))

pub declare_in-holds : {size : ℕ} (region : ℕ) (value : ℕ) (token : ℕ) → token < size → Holds size false (declare_in region value token)
unfolding declare_in
declare_in-holds region value token token-in = bind-holds (look-holds (λ k. declared_in k.regions region value)) (λ held.
    bind-holds (early-holds 2 token (is_none held) refl token-in) (λ _. when-holds (is_none held) (add_label-holds region value token)))

pub use_at-holds : {size : ℕ} (frame : ℕ) (at : ℕ) (token : ℕ) → token < size → Holds size false (use_at frame at token)
unfolding use_at
use_at-holds frame at token token-in = bind-holds (look-holds (λ k. find k frame (name_at k token))) (λ found.
    bind-holds (early-holds 1 token (is_usable at found) refl token-in) (λ _. give-holds (usable at found)))

pub use_again-holds : {size : ℕ} {later : Bool} (frame : ℕ) (token : ℕ) → token < size → Holds size later (use_again frame token)
unfolding use_again
use_again-holds frame token token-in = bind-holds (look-holds (λ k. find k frame (name_at k token))) (λ found.
    bind-holds (late-holds 3 token (is_usable token found) refl token-in) (λ _. give-holds (usable token found)))
