-- No action gives steps back.
use Rattle.std.proofs.Common.{◌+◌, ◌<◌, ◌≤◌, ℕ, List, Ok, Option, Result, arith, subst}
use Rattle.cell_value.specs.declared.entries.Touch.{Touch}
use Rattle.core_program.{proofs.ActsTakeSteps.Acted, proofs.ActsTakeSteps.acted, proofs.ActsTakeSteps.cost, specs.State.State}
use Rattle.core_program.specs.Actions.{Action, Fail, Finished, Give, NoMeaning, NotMeant, Perform, Performed, Stopped, before, follow, performs}
use Rattle.core_program.specs.Acts.{Act, ActResult, Answer, Stops, Went, perform}
use Rattle.eval_ops.specs.{Machines.DoesAll, Machines.Moment, declared.halt.Halt.Halt}
use Rattle.evaluator.specs.{Weight.Falls, declared.tasks.Pause.Pause}

abbrev TookAll : {A : Type 0} → ℕ → Performed A → Type 0
TookAll n (Finished x w τ) = τ.steps ≤ n
TookAll n (Stopped why w τ) = Unit {0}
TookAll n NotMeant = Unit {0}

before_took : {A : Type 0} (w : List Touch) (n k : ℕ) (d : Performed A) → n ≤ k → TookAll n d → TookAll k (before w d)
before_took w n k (Finished x v τ) h t = omega arith
before_took w n k (Stopped why v τ) h t = tt
before_took w n k NotMeant h t = tt

follow_took : {A B : Type 0} (cost : ℕ) (σ : State) (d : ActResult A) (go : A → State → Performed B) → Acted cost σ d
    → ((x : A) (τ : State) → TookAll τ.steps (go x τ)) → TookAll σ.steps (follow d go)
follow_took cost σ (Went x w τ) go h t = before_took w τ.steps σ.steps (go x τ) (omega (arith, h)) (t x τ)
follow_took cost σ (Stops why w τ) go h t = tt

took_all : {A : Type 0} (a : Action A) (σ : State) → TookAll σ.steps (performs a σ)
took_all (Give x) σ = omega arith
took_all (Fail why) σ = tt
took_all NoMeaning σ = tt
took_all (Perform act next) σ =
    follow_took (cost act) σ (perform act σ) (λ x τ. performs (next x) τ) (acted act σ) (λ x τ. took_all (next x) τ)

-- after an action that was done
pub steps_fall : {A X : Type 0} (seen : X → A) (a : Action A) (x : X) (m m' : Moment) → DoesAll seen (performs a m.state) (Ok x) m m'
    → m'.state.steps ≤ m.state.steps
steps_fall seen a x m m' h = subst (TookAll m.state.steps) h.1 (took_all a m.state)

-- an action takes at least the steps of its first act
abbrev TookSome : {A : Type 0} → (cost n : ℕ) → Performed A → Type 0
TookSome cost n (Finished x w τ) = τ.steps + cost ≤ n
TookSome cost n (Stopped why w τ) = Unit {0}
TookSome cost n NotMeant = Unit {0}

before_some : {A : Type 0} (w : List Touch) (cost n k : ℕ) (d : Performed A) → k + cost ≤ n → TookAll k d → TookSome cost n (before w d)
before_some w cost n k (Finished x v τ) h t = omega (arith, h, t)
before_some w cost n k (Stopped why v τ) h t = tt
before_some w cost n k NotMeant h t = tt

follow_some : {A B : Type 0} (cost : ℕ) (σ : State) (d : ActResult A) (go : A → State → Performed B) → Acted cost σ d
    → ((x : A) (τ : State) → TookAll τ.steps (go x τ)) → TookSome cost σ.steps (follow d go)
follow_some cost σ (Went x w τ) go h t = before_some w cost σ.steps τ.steps (go x τ) h (t x τ)
follow_some cost σ (Stops why w τ) go h t = tt

-- after an action that was done, whose first act takes steps
pub first_falls : {A X : Type 0} (seen : X → A) (a : Act) (next : Answer a → Action A) (x : X) (m m' : Moment)
    → DoesAll seen (performs (Perform a next) m.state) (Ok x) m m' → m'.state.steps + cost a ≤ m.state.steps
first_falls seen a next x m m' h = subst (TookSome (cost a) m.state.steps) h.1
    (follow_some (cost a) m.state (perform a m.state) (λ x τ. performs (next x) τ) (acted a m.state) (λ x τ. took_all (next x) τ))

-- what is left less, by what is left less of another
pub falls_so : (r : Result (Option Pause) Halt) (a b a' b' : ℕ) → (a < b → a' < b') → Falls r a b → Falls r a' b'
falls_so r a b a' b' f h g = f (h g)
