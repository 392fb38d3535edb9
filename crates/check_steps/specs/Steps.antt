-- Steps of a check: what a part of a tree does to the tables, and the rules that it breaks.
use Rattle.std.specs.Prelude.{if◌then◌else◌, ◌++◌, ◌∷◌, ◌≡◌, [], ℕ, ℤ, Bool, List, Option, length}
use Rattle.core_program.specs.declared.{program.Routine.Routine, rows.Row.Row}
use Rattle.check_steps.specs.{Breaks.first_broken, declared.breaks.Break.Break, declared.work.Work.Work}
use Rattle.check_steps.specs.Known.{Known, and_choice, and_control, and_definition, and_frame, and_label, and_region}
use Rattle.check_steps.specs.Known.{and_routine, and_threat, in_block, with_routine, with_row, without_control}
use Rattle.check_steps.specs.declared.breaks.Broken.{Broken, TheVariants.Early, TheVariants.Late, TheVariants.TooBig}
use Rattle.check_steps.specs.declared.regions.{Definition.Definition, Frame.Frame, Span.Span}

-- what a step gives, what is known after it, and the rules that it breaks
pub record Done (A : Type 0) : Type 0 where
  pub value : A
  pub known : Known
  pub broken : List Break

abbrev pub Step : Type 0 → Type 0
Step A = Known → Done A

unfoldable pub give : {A : Type 0} → A → Step A
give x k = record { value = x; known = k; broken = [] }

infixl 10 ◌>>=◌
unfoldable pub ◌>>=◌ : {A B : Type 0} → Step A → (A → Step B) → Step B
(m >>= f) k =
    let d = m k in
    let e = f d.value d.known in
    record { value = e.value; known = e.known; broken = d.broken ++ e.broken }

-- what the tables say
unfoldable pub look : {A : Type 0} → (Known → A) → Step A
look f k = record { value = f k; known = k; broken = [] }

-- a change of the tables
unfoldable pub change : (Known → Known) → Step (Unit {0})
change f k = record { value = tt; known = f k; broken = [] }

-- a change of the tables that gives what they said before
unfoldable pub extend : {A : Type 0} → (Known → A) → (Known → Known) → Step A
extend value f k = record { value = value k; known = f k; broken = [] }

-- ---- what is broken

-- This is broken at the token, unless the test holds.
unfoldable pub ask : Broken → ℕ → Bool → Step (Unit {0})
ask what token ok k = record {
  value = tt;
  known = k;
  broken = if ok then [] else record { broken = what; token = token } ∷ [];
}

-- a rule that can be told from declarations and names alone
abbrev pub early : ℕ → ℕ → Bool → Step (Unit {0})
early n token ok = ask (Early n) token ok

-- another rule
abbrev pub late : ℕ → ℕ → Bool → Step (Unit {0})
late n token ok = ask (Late n) token ok

-- too many cells
abbrev pub too_big : ℕ → Bool → Step (Unit {0})
too_big token ok = ask TooBig token ok

-- ---- the tables

abbrev pub put : ℕ → Row → Step (Unit {0})
put number r = change (λ k. with_row k number r)

abbrev pub put_routine : ℕ → Routine → Step (Unit {0})
put_routine number r = change (λ k. with_routine k number r)

-- a new routine, by its number
abbrev pub add_routine : Routine → Step ℕ
add_routine r = extend (λ k. length k.program.routines) (λ k. and_routine k r)

-- a new frame, by its number
abbrev pub open_frame : Frame → Step ℕ
open_frame f = extend (λ k. length k.frames) (λ k. and_frame k f)

-- A new region that begins at a token, inside a frame or none; what is given is the number of its own frame.
abbrev pub open_region : ℕ → Option ℕ → ℕ → Step ℕ
open_region token outer level = extend (λ k. length k.frames) (λ k. and_region k token
    (record { region = length k.regions; outer = outer; level = level; withs = 0 }))

-- a definition of a name at the end of a region
abbrev pub add_definition : ℕ → ℕ → Definition → Step (Unit {0})
add_definition region name d = change (λ k. and_definition k region name d)

-- a label at the end of a region
abbrev pub add_label : ℕ → ℕ → ℕ → Step (Unit {0})
add_label region value token = change (λ k. and_label k region value token)

-- one more value of a list of values that choose
abbrev pub add_chosen : ℕ → ℤ → Step (Unit {0})
add_chosen list value = change (λ k. and_choice k list value)

-- inside of a for statement with this control variable
abbrev pub hold : ℕ → Step (Unit {0})
hold variable = change (λ k. and_control k variable)

-- outside of the innermost for statement
abbrev pub release : Step (Unit {0})
release = change without_control

-- a routine threatens a variable at a token
abbrev pub threaten : ℕ → ℕ → Step (Unit {0})
threaten variable token = change (λ k. and_threat k variable token)

-- The statements of this block are checked from now on.
abbrev pub enter_block : Span → Step (Unit {0})
enter_block s = change (λ k. in_block k s)

-- a step that is done only if a test holds
unfoldable pub when : Bool → Step (Unit {0}) → Step (Unit {0})
when ok m = if ok then m else give tt

-- ---- lists of parts

-- a step for each item in turn, from what the last one gave
abbrev pub each : {A X : Type 0} → (A → X → Step A) → A → List X → Step A
each f a [] = give a
each f a (x ∷ xs) = f a x >>= λ b. each f b xs

-- a step for each item in turn, the last one first
abbrev pub each_back : {A X : Type 0} → (A → X → Step A) → A → List X → Step A
each_back f a [] = give a
each_back f a (x ∷ xs) = each_back f a xs >>= λ b. f b x

-- ---- the code's side

-- the code's work after a step
unfoldable pub run_step : {A : Type 0} → Step A → Work → A × Work
run_step m w =
    let d = m w.tables in
    (d.value, record { least = first_broken d.broken w.least; tables = d.known })

-- The work did this step, and gave this.
abbrev pub Does : {A : Type 0} → Step A → A → Work → Work → Type 0
Does m x old new = run_step m old ≡ (x, new)
