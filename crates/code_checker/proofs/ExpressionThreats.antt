-- What the steps of `Rattle.expression_checker.specs.Threats` keep.
use Rattle.std.proofs.Common.{◌<◌, ℕ, Bool, None, Option, Some, not, refl}
use Rattle.check_steps.specs.Known.{is_control}
use Rattle.expression_checker.specs.Threats.{is_outer, threat, threat_alone, threat_to, threatened, whole_variable}
use Rattle.expression_checker.specs.declared.threats.Whole.{Whole}
use Rattle.code_checker.proofs.Steps.{Holds, bind-holds, give-holds, late-holds, look-holds, threaten-holds, when-holds}
use Rattle.code_checker.proofs.Within.{Below}

pub threatened-holds : {size : ℕ} {later : Bool} (frame : ℕ) (name : ℕ) (w : Whole) → name < size → Holds size later (threatened frame name w)
unfolding threatened
threatened-holds frame name w name-in = bind-holds (look-holds (λ k. is_control k w.variable)) (λ held.
    bind-holds (late-holds 20 name (not held) refl name-in) (λ _. bind-holds (look-holds (λ k. is_outer k frame w)) (λ outer.
    when-holds outer (threaten-holds w.variable name))))

pub threat_to-holds : {size : ℕ} {later : Bool} (frame : ℕ) (name : ℕ) (x_whole : Option Whole) → name < size
    → Holds size later (threat_to frame name x_whole)
threat_to-holds frame name None name-in = give-holds tt
threat_to-holds frame name (Some w) name-in = threatened-holds frame name w name-in

pub threat-holds : {size : ℕ} {later : Bool} (frame : ℕ) (name : ℕ) → name < size → Holds size later (threat frame name)
unfolding threat
threat-holds frame name name-in = bind-holds (look-holds (λ k. whole_variable k frame name)) (λ w. threat_to-holds frame name w name-in)

pub threat_alone-holds : {size : ℕ} {later : Bool} (frame : ℕ) (x : Option ℕ) → Below size x → Holds size later (threat_alone frame x)
threat_alone-holds frame None x-in = give-holds tt
threat_alone-holds frame (Some name) x-in = threat-holds frame name x-in
