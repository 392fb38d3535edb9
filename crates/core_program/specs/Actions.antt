-- Actions made of several acts, with an answer of any type.
use Rattle.std.specs.Prelude.{◌++◌, [], List}
use Rattle.cell_value.specs.declared.entries.Touch.{Touch}
use Rattle.core_program.specs.Acts.{Act, ActResult, Answer, Stops, Trouble, Went, perform}
use Rattle.core_program.specs.State.{State}

pub data Action (A : Type 0) : Type 0 where
  Give : (answer : A) → Action A
  Fail : (why : Trouble) → Action A
  -- The program's tables are not whole: a row is missing that is needed here, or it is of another kind. No action is
  -- meant.
  NoMeaning : Action A
  Perform : (act : Act) (next : Answer act → Action A) → Action A

infixl 10 ◌>>=◌
abbrev pub ◌>>=◌ : {A B : Type 0} → Action A → (A → Action B) → Action B
(Give x) >>= f = f x
(Fail why) >>= f = Fail why
NoMeaning >>= f = NoMeaning
(Perform act next) >>= f = Perform act (λ x. next x >>= f)

-- an act as an action
abbrev pub act : (a : Act) → Action (Answer a)
act a = Perform a Give

-- what an action did: it may stop in the middle, and it may be none
pub data Performed (A : Type 0) : Type 0 where
  Finished : (answer : A) (log : List Touch) (after : State) → Performed A
  Stopped : (why : Trouble) (log : List Touch) (after : State) → Performed A
  NotMeant : Performed A

abbrev pub before : {A : Type 0} → List Touch → Performed A → Performed A
before w (Finished x v σ) = Finished x (w ++ v) σ
before w (Stopped why v σ) = Stopped why (w ++ v) σ
before w NotMeant = NotMeant

abbrev pub follow : {A B : Type 0} → ActResult A → (A → State → Performed B) → Performed B
follow (Went x w σ) go = before w (go x σ)
follow (Stops why w σ) go = Stopped why w σ

-- what an action does from a state
abbrev pub performs : {A : Type 0} → Action A → State → Performed A
performs (Give x) σ = Finished x [] σ
performs (Fail why) σ = Stopped why [] σ
performs NoMeaning σ = NotMeant
performs (Perform act next) σ = follow (perform act σ) (λ x τ. performs (next x) τ)
