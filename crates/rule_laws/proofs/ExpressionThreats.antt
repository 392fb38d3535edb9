-- What the steps of `Rattle.expression_checker.specs.Threats` touch.
use Rattle.std.proofs.Common.{ℕ, None, Option, Some, not, refl}
use Rattle.check_steps.specs.Known.{is_control}
use Rattle.expression_checker.specs.Threats.{is_outer, threat, threat_alone, threat_to, threatened, whole_variable}
use Rattle.expression_checker.specs.declared.threats.Whole.{Whole}
use Rattle.rule_laws.proofs.{Every.Below, Every.Of, Faces.Shown}
use Rattle.rule_laws.proofs.Touches.{Touches, bind-touches, give-touches, late-touches, look-touches, threaten-touches, when-touches}

pub threatened-touches : {Q : ℕ → Type 0} {strict : Shown} (frame : ℕ) (name : ℕ) (w : Whole) → Of Q name → Touches Q strict (threatened frame name w)
unfolding threatened
threatened-touches frame name w name-in = bind-touches (look-touches (λ k. is_control k w.variable)) (λ held.
    bind-touches (late-touches 20 name (not held) refl name-in) (λ _. bind-touches (look-touches (λ k. is_outer k frame w)) (λ outer.
    when-touches outer (threaten-touches w.variable name))))

pub threat_to-touches : {Q : ℕ → Type 0} {strict : Shown} (frame : ℕ) (name : ℕ) (x_whole : Option Whole) → Of Q name
    → Touches Q strict (threat_to frame name x_whole)
threat_to-touches frame name None name-in = give-touches tt
threat_to-touches frame name (Some w) name-in = threatened-touches frame name w name-in

pub threat-touches : {Q : ℕ → Type 0} {strict : Shown} (frame : ℕ) (name : ℕ) → Of Q name → Touches Q strict (threat frame name)
unfolding threat
threat-touches frame name name-in = bind-touches (look-touches (λ k. whole_variable k frame name)) (λ w. threat_to-touches frame name w name-in)

pub threat_alone-touches : {Q : ℕ → Type 0} {strict : Shown} (frame : ℕ) (x : Option ℕ) → Below Q x → Touches Q strict (threat_alone frame x)
threat_alone-touches frame None x-in = give-touches tt
threat_alone-touches frame (Some name) x-in = threat-touches frame name x-in
