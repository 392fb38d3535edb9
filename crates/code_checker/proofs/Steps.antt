-- What all steps keep: the threats stand at tokens of the source, and each rule that a step breaks is broken at such a token.
use Rattle.std.proofs.Common.{◌++◌, ◌<◌, ◌∷◌, ◌≡◌, ◌≤◌, [], ℕ, Bool, List, Option, Some, arith, false, length, map, refl, true}
use Rattle.std.proofs.lemmas.List.{length-set}
use Rattle.grammar.specs.Nodes.{Node, row}
use Rattle.core_program.specs.declared.{program.Routine.Routine, rows.Row.Row}
use Rattle.check_steps.specs.{Breaks.is_early, Known.Known, declared.regions.Definition.Definition, declared.regions.Frame.Frame, declared.regions.Span.Span}
use Rattle.check_steps.specs.Steps.{◌>>=◌, Done, Step, add_chosen, add_definition, add_label, add_routine, ask, change, each, each_back, early, enter_block}
use Rattle.check_steps.specs.Steps.{extend, give, hold, late, look, open_frame, open_region, put, put_routine, release, threaten, too_big, when}
use Rattle.check_steps.specs.declared.breaks.{Break.Break, Broken.Broken, Broken.TheVariants.Early, Broken.TheVariants.Late, Broken.TheVariants.TooBig}
use Rattle.code_checker.proofs.Within.{Within}
use Rattle.code_checker.specs.RulesTold.{is_told}

-- Where `later` is true it is no rule of declarations and names.
pub record Stands (size : ℕ) (later : Bool) (b : Break) : Type 0 where
  pub token : b.token < size
  pub told : is_told b.broken ≡ true
  pub waits : later ≡ true → is_early b ≡ false

abbrev pub Each : (Break → Type 0) → List Break → Type 0
Each P [] = Unit {0}
Each P (b ∷ bs) = P b × Each P bs

pub both : (P : Break → Type 0) (xs ys : List Break) → Each P xs → Each P ys → Each P (xs ++ ys)
both P [] ys x y = y
both P (b ∷ xs) ys x y = (x.0, both P xs ys x.1 y)

-- what a step leaves
pub record Leaves (size : ℕ) (later : Bool) {A : Type 0} (d : Done A) : Type 0 where
  pub threats : length d.known.threats ≤ size
  pub broken : Each (Stands size later) d.broken

pub record Holds (size : ℕ) (later : Bool) {A : Type 0} (m : Step A) : Type 0 where
  pub of : (k : Known) → length k.threats ≤ size → Leaves size later (m k)

pub bind-holds : {size : ℕ} {later : Bool} {A B : Type 0} {m : Step A} {f : A → Step B} → Holds size later m → ((a : A) → Holds size later (f a))
    → Holds size later (m >>= f)
unfolding ◌>>=◌
bind-holds {size = size} {later = later} {m = m} {f = f} h g = record {
  of = λ k t.
      let d = m k in
      let one = h.of k t in
      let two = (g d.value).of d.known one.threats in
      record { threats = two.threats; broken = both (Stands size later) d.broken (f d.value d.known).broken one.broken two.broken };
}

pub give-holds : {size : ℕ} {later : Bool} {A : Type 0} (x : A) → Holds size later (give x)
unfolding give
give-holds x = record { of = λ k t. record { threats = t; broken = tt } }

pub look-holds : {size : ℕ} {later : Bool} {A : Type 0} (f : Known → A) → Holds size later (look f)
unfolding look
look-holds f = record { of = λ k t. record { threats = t; broken = tt } }

-- what follows from what the tables say, where it is something that holds of all tables
pub looked-holds : {size : ℕ} {later : Bool} {A B : Type 0} (P : A → Type 0) (f : Known → A) {g : A → Step B}
    → ((k : Known) → length k.threats ≤ size → P (f k))
    → ((a : A) → P a → Holds size later (g a)) → Holds size later (look f >>= g)
unfolding look ◌>>=◌
looked-holds P f says h = record {
  of = λ k t. let one = (h (f k) (says k t)).of k t in record { threats = one.threats; broken = one.broken };
}

changes : {size : ℕ} {later : Bool} (f : Known → Known) → ((k : Known) → length (f k).threats ≡ length k.threats) → Holds size later (change f)
unfolding change
changes {size = size} f same = record { of = λ k t. record { threats = omega (arith, same k, t); broken = tt } }

asks : {size : ℕ} {later : Bool} (what : Broken) (token : ℕ) (ok : Bool) → Stands size later (record { broken = what; token = token })
    → Holds size later (ask what token ok)
unfolding ask
asks what token true stands = record { of = λ k t. record { threats = t; broken = tt } }
asks what token false stands = record { of = λ k t. record { threats = t; broken = (stands, tt) } }

pub early-holds : {size : ℕ} (rule token : ℕ) (ok : Bool) → is_told (Early rule) ≡ true → token < size → Holds size false (early rule token ok)
early-holds rule token ok told there =
    asks (Early rule) token ok (record { token = there; told = told; waits = λ e. absurd (let no : false ≡ true = e in cc) })

pub late-holds : {size : ℕ} {later : Bool} (rule token : ℕ) (ok : Bool) → is_told (Late rule) ≡ true → token < size → Holds size later (late rule token ok)
late-holds rule token ok told there = asks (Late rule) token ok (record { token = there; told = told; waits = λ e. refl })

pub too_big-holds : {size : ℕ} {later : Bool} (token : ℕ) (ok : Bool) → token < size → Holds size later (too_big token ok)
too_big-holds token ok there = asks TooBig token ok (record { token = there; told = refl; waits = λ e. refl })

pub put-holds : {size : ℕ} {later : Bool} (number : ℕ) (r : Row) → Holds size later (put number r)
put-holds number r = changes _ (λ k. refl)

pub put_routine-holds : {size : ℕ} {later : Bool} (number : ℕ) (r : Routine) → Holds size later (put_routine number r)
put_routine-holds number r = changes _ (λ k. refl)

pub add_routine-holds : {size : ℕ} {later : Bool} (r : Routine) → Holds size later (add_routine r)
unfolding extend
add_routine-holds r = record { of = λ k t. record { threats = t; broken = tt } }

pub open_frame-holds : {size : ℕ} {later : Bool} (f : Frame) → Holds size later (open_frame f)
unfolding extend
open_frame-holds f = record { of = λ k t. record { threats = t; broken = tt } }

pub open_region-holds : {size : ℕ} {later : Bool} (token : ℕ) (outer : Option ℕ) (level : ℕ) → Holds size later (open_region token outer level)
unfolding extend
open_region-holds token outer level = record { of = λ k t. record { threats = t; broken = tt } }

pub add_definition-holds : {size : ℕ} {later : Bool} (region name : ℕ) (d : Definition) → Holds size later (add_definition region name d)
add_definition-holds region name d = changes _ (λ k. refl)

pub add_label-holds : {size : ℕ} {later : Bool} (region value token : ℕ) → Holds size later (add_label region value token)
add_label-holds region value token = changes _ (λ k. refl)

pub add_chosen-holds : {size : ℕ} {later : Bool} (list : ℕ) (value : _) → Holds size later (add_chosen list value)
add_chosen-holds list value = changes _ (λ k. refl)

pub hold-holds : {size : ℕ} {later : Bool} (variable : ℕ) → Holds size later (hold variable)
hold-holds variable = changes _ (λ k. refl)

pub release-holds : {size : ℕ} {later : Bool} → Holds size later release
release-holds = changes _ (λ k. refl)

pub threaten-holds : {size : ℕ} {later : Bool} (variable token : ℕ) → Holds size later (threaten variable token)
threaten-holds variable token = changes _ (λ k. length-set k.threats token (Some variable))

pub enter_block-holds : {size : ℕ} {later : Bool} (s : Span) → Holds size later (enter_block s)
enter_block-holds s = changes _ (λ k. refl)

pub when-holds : {size : ℕ} {later : Bool} (ok : Bool) {m : Step (Unit {0})} → Holds size later m → Holds size later (when ok m)
unfolding when
when-holds true h = h
when-holds false h = give-holds tt

pub each-holds : {size : ℕ} {later : Bool} {A X : Type 0} (f : A → X → Step A) (node : X → Node)
    → ((a : A) (x : X) → Within size (node x) → Holds size later (f a x)) → (a : A)
    (xs : List X) → Within size (row (map node xs)) → Holds size later (each f a xs)
each-holds f node h a [] inside = give-holds a
each-holds f node h a (x ∷ xs) inside = bind-holds (h a x inside.0) (λ b. each-holds f node h b xs inside.1)

pub each_back-holds : {size : ℕ} {later : Bool} {A X : Type 0} (f : A → X → Step A) (node : X → Node)
    → ((a : A) (x : X) → Within size (node x) → Holds size later (f a x))
    → (a : A) (xs : List X) → Within size (row (map node xs)) → Holds size later (each_back f a xs)
each_back-holds f node h a [] inside = give-holds a
each_back-holds f node h a (x ∷ xs) inside = bind-holds (each_back-holds f node h a xs inside.1) (λ b. h b x inside.0)
