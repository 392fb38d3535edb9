-- Steps that break no rule but plain ones, which are told at many places.
use Rattle.std.proofs.Common.{◌+◌, ◌||◌, ◌∙◌, ◌∷◌, ◌≡◌, [], ℕ, ℤ, Bool, List, Option, false, is_none, length, nat_eq, not, refl, true}
use Rattle.pas_tree.specs.{ConstantTrees.NamesTree, declared.constants.NextName.NextName}
use Rattle.core_program.specs.declared.{program.Routine.Routine as RoutineRow, rows.NameRow.NameRow, rows.Row.Row}
use Rattle.check_steps.specs.{Breaks.number, Items.link, Items.row_on, Regions.defined_in, Required.require}
use Rattle.check_steps.specs.Known.{Known, and_choice, and_frame, and_region, and_routine, row_at, with_row}
use Rattle.check_steps.specs.Steps.{◌>>=◌, Step, add_chosen, add_routine, ask, change, each, extend, give, look, open_frame, open_region, put, when}
use Rattle.check_steps.specs.declared.{breaks.Break.Break, breaks.Broken.Broken, regions.Frame.Frame, words.SpelledToken.SpelledToken}
use Rattle.kind_checker.specs.Names.{each_name, on_name}
use Rattle.denoter_checker.specs.Parts.{settle_domain, settled}
use Rattle.rule_laws.proofs.Breaks.{Each, both}

-- what the tokens spell, and what is to hold of all that is broken
pub record Aim : Type 1 where
  pub words : List SpelledToken
  pub P : Break → Type 0

-- All that a step breaks is such, and it leaves what the tokens spell.
pub record Solely (aim : Aim) {A : Type 0} (m : Step A) : Type 0 where
  pub same : (k : Known) → (m k).known.words ≡ k.words
  pub of : (k : Known) → k.words ≡ aim.words → Each aim.P (m k).broken

pub bind-solely : {aim : Aim} {A B : Type 0} {m : Step A} {f : A → Step B} → Solely aim m → ((a : A) → Solely aim (f a)) → Solely aim (m >>= f)
unfolding ◌>>=◌
bind-solely {aim = aim} {m = m} {f = f} h g = record {
  same = λ k. let d = m k in (g d.value).same d.known ∙ h.same k;
  of = λ k e. let d = m k in both aim.P d.broken (f d.value d.known).broken (h.of k e) ((g d.value).of d.known (h.same k ∙ e));
}

pub give-solely : {aim : Aim} {A : Type 0} (x : A) → Solely aim (give x)
unfolding give
give-solely x = record { same = λ k. refl; of = λ k e. tt }

pub look-solely : {aim : Aim} {A : Type 0} (f : Known → A) → Solely aim (look f)
unfolding look
look-solely f = record { same = λ k. refl; of = λ k e. tt }

pub change-solely : {aim : Aim} (f : Known → Known) → ((k : Known) → (f k).words ≡ k.words) → Solely aim (change f)
unfolding change
change-solely f same = record { same = same; of = λ k e. tt }

pub ask-solely : {aim : Aim} (what : Broken) (token : ℕ) (ok : Bool) → aim.P (record { broken = what; token = token }) → Solely aim (ask what token ok)
unfolding ask
ask-solely what token true h = record { same = λ k. refl; of = λ k e. tt }
ask-solely what token false h = record { same = λ k. refl; of = λ k e. (h, tt) }

pub when-solely : {aim : Aim} (ok : Bool) {m : Step (Unit {0})} → Solely aim m → Solely aim (when ok m)
unfolding when
when-solely true h = h
when-solely false h = give-solely tt

-- a rule of which each law tells at one place alone is not plain
abbrev pub is_plain : Broken → Bool
is_plain b = not (nat_eq (number b) 2 || nat_eq (number b) 8 || nat_eq (number b) 12 || nat_eq (number b) 15)

-- This holds of all plain rules.
pub record Plain (aim : Aim) : Type 0 where
  pub of : (what : Broken) (token : ℕ) → is_plain what ≡ true → aim.P (record { broken = what; token = token })

pub ask-plain : {aim : Aim} (kept : Plain aim) (what : Broken) (token : ℕ) (ok : Bool) → is_plain what ≡ true → Solely aim (ask what token ok)
ask-plain kept what token ok plain = ask-solely what token ok (kept.of what token plain)

pub put-plain : {aim : Aim} (kept : Plain aim) (m : ℕ) (r : Row) → Solely aim (put m r)
put-plain kept m r = change-solely (λ k. with_row k m r) (λ k. refl)

pub extend-plain : {aim : Aim} {A : Type 0} (value : Known → A) (f : Known → Known) → ((k : Known) → (f k).words ≡ k.words) → Solely aim (extend value f)
unfolding extend
extend-plain value f same = record { same = same; of = λ k e. tt }

pub link-plain : {aim : Aim} (kept : Plain aim) (last next : ℕ) → Solely aim (link last next)
unfolding link
link-plain kept last next = bind-solely (look-solely (λ k. row_on (row_at k last) next)) (λ r. put-plain kept last r)

pub settle_domain-plain : {aim : Aim} (kept : Plain aim) (token : ℕ) → Solely aim (settle_domain token)
unfolding settle_domain
settle_domain-plain kept token = bind-solely (look-solely (λ k. settled k (row_at k token))) (λ r. put-plain kept token r)

pub require-plain : {aim : Aim} (kept : Plain aim) (name : ℕ) (r : NameRow) → Solely aim (require name r)
unfolding require
require-plain kept name r = bind-solely (look-solely (λ k. length k.words)) (λ first. bind-solely (look-solely (λ k. defined_in k.regions 0 name)) (λ held.
    bind-solely (put-plain kept (first + name) (Row.Name r)) (λ _. when-solely (is_none held) (change-solely _ (λ k. refl)))))

pub add_routine-plain : {aim : Aim} (kept : Plain aim) (r : RoutineRow) → Solely aim (add_routine r)
add_routine-plain kept r = extend-plain (λ k. length k.program.routines) (λ k. and_routine k r) (λ k. refl)

pub open_frame-plain : {aim : Aim} (kept : Plain aim) (f : Frame) → Solely aim (open_frame f)
open_frame-plain kept f = extend-plain (λ k. length k.frames) (λ k. and_frame k f) (λ k. refl)

pub open_region-plain : {aim : Aim} (kept : Plain aim) (token : ℕ) (outer : Option ℕ) (level : ℕ) → Solely aim (open_region token outer level)
open_region-plain kept token outer level =
    let f : Known → Frame = λ k. record { region = length k.regions; outer = outer; level = level; withs = 0 } in
    extend-plain (λ k. length k.frames) (λ k. and_region k token (f k)) (λ k. refl)

pub add_chosen-plain : {aim : Aim} (kept : Plain aim) (list : ℕ) (value : ℤ) → Solely aim (add_chosen list value)
add_chosen-plain kept list value = change-solely (λ k. and_choice k list value) (λ k. refl)

-- ---- lists of parts

pub each-plain : {aim : Aim} {A X : Type 0} (f : A → X → Step A) → ((a : A) (x : X) → Solely aim (f a x)) → (a : A) (xs : List X) → Solely aim (each f a xs)
each-plain f h a [] = give-solely a
each-plain f h a (x ∷ xs) = bind-solely (h a x) (λ b. each-plain f h b xs)

pub on_name-plain : {aim : Aim} {A : Type 0} (f : A → ℕ → Step A) (a : A) (n : NextName) → ((a : A) (t : ℕ) → Solely aim (f a t))
    → Solely aim (on_name f a n)
unfolding on_name
on_name-plain f a n h = h a n.name

pub each_name-plain : {aim : Aim} {A : Type 0} (f : A → ℕ → Step A) (a : A) (n : NamesTree) → ((a : A) (t : ℕ) → Solely aim (f a t))
    → Solely aim (each_name f a n)
each_name-plain f a n h = bind-solely (h a n.first) (λ b. each-plain (on_name f) (λ a x. on_name-plain f a x h) b n.others)
