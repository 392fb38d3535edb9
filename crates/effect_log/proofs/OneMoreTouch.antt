-- What a list of touches says, with one more touch: the first and the last that say something, sums, and what is changed.
use Rattle.std.proofs.Common.{◌++◌, ◌+◌, ◌∙◌, ◌∷◌, ◌≡◌, ◌⊎◌, [], ℕ, Bool, List, None, Option, Some, ap, cond, fold, inl, inr, is_some, map, max, not}
use Rattle.std.proofs.Common.{option_to_list, refl, sum_by, sym, take, zero-add}
use Rattle.std.{proofs.Math.Numerals.one-add, specs.List.before_first, specs.List.cons_option, specs.List.filter_map, specs.List.prefix_len}
use Rattle.std.proofs.lemmas.List.{append-nil, map-append, Elements.filter_map-append, Sums.fold-append, Sums.sum_by-append}
use Rattle.cell_value.specs.Effects.{change_at, change_by, head_of, last_of, looked_by, looked_of}
use Rattle.cell_value.specs.declared.entries.Touch.{Touch}
use Rattle.effect_log.specs.Passing.{later}

-- ---- the last and the first of a list with one more element, or none more
pub last_snoc : {X : Type 0} (xs : List X) (y : X) → last_of (xs ++ y ∷ []) ≡ Some y
last_snoc [] y = refl
last_snoc (x ∷ []) y = refl
last_snoc (x ∷ z ∷ xs) y = last_snoc (z ∷ xs) y

pub last_more : {X : Type 0} (xs : List X) (o : Option X) → last_of (xs ++ cons_option o []) ≡ later o (last_of xs)
last_more xs (Some y) = last_snoc xs y
last_more xs None = ap last_of (append-nil xs)

abbrev pub sooner : {X : Type 0} → Option X → Option X → Option X
sooner (Some x) o = Some x
sooner None o = o

pub first_more : {X : Type 0} (xs : List X) (o : Option X) → head_of (xs ++ cons_option o []) ≡ sooner (head_of xs) o
first_more [] (Some y) = refl
first_more [] None = refl
first_more (x ∷ xs) o = refl

pub last_there : {X : Type 0} (x : X) (xs : List X) → last_of (x ∷ xs) ≡ None → ⊥
last_there x [] e = cc
last_there x (y ∷ ys) e = last_there y ys e

-- the touches before the first that changes, where the first of all changes or not
module _ {T C : Type 0} (h : T → Option C) where
  abbrev pub changes : T → Bool
  changes t = is_some (h t)

  pub before_changing : (t : T) (ts : List T) (c : C) → h t ≡ Some c → before_first changes (t ∷ ts) ≡ []
  before_changing t ts c e = ap (λ o. take (cond (not (is_some o)) (1 + prefix_len (λ x. not (changes x)) ts) 0) (t ∷ ts)) e

  pub before_other : (t : T) (ts : List T) → h t ≡ None → before_first changes (t ∷ ts) ≡ t ∷ before_first changes ts
  before_other t ts e =
      ap (λ o. take (cond (not (is_some o)) (1 + prefix_len (λ x. not (changes x)) ts) 0) (t ∷ ts)) e
      ∙ ap (λ n. take n (t ∷ ts)) (one-add (prefix_len (λ x. not (changes x)) ts))

  pub kept_other : (t : T) (ts : List T) → h t ≡ None → filter_map h (t ∷ ts) ≡ filter_map h ts
  kept_other t ts e = ap (λ o. cons_option o (filter_map h ts)) e

  pub kept_changing : (t : T) (ts : List T) (c : C) → h t ≡ Some c → filter_map h (t ∷ ts) ≡ c ∷ filter_map h ts
  kept_changing t ts c e = ap (λ o. cons_option o (filter_map h ts)) e

  pub option_cases : (o : Option C) → ((c : C) × (o ≡ Some c)) ⊎ (o ≡ None)
  option_cases (Some c) = inl (c, refl)
  option_cases None = inr refl

  -- with no change so far all touches count, and so does one more that does not change
  pub all_before : (ts : List T) → last_of (filter_map h ts) ≡ None → before_first changes ts ≡ ts
  all_before [] e = refl
  all_before (t ∷ ts) e = elim (option_cases (h t)) [
    | inl w ↦ absurd (last_there w.0 (filter_map h ts) (ap last_of (sym (kept_changing t ts w.0 w.1)) ∙ e))
    | inr none ↦ before_other t ts none ∙ ap (λ xs. t ∷ xs) (all_before ts (ap last_of (sym (kept_other t ts none)) ∙ e))
  ]

  pub before_none : (ts : List T) (t : T) → last_of (filter_map h ts) ≡ None → before_first changes (ts ++ t ∷ []) ≡ ts ++ before_first changes (t ∷ [])
  before_none [] t e = refl
  before_none (s ∷ ts) t e = elim (option_cases (h s)) [
    | inl w ↦ absurd (last_there w.0 (filter_map h ts) (ap last_of (sym (kept_changing s ts w.0 w.1)) ∙ e))
    | inr none ↦ before_other s (ts ++ t ∷ []) none ∙ ap (λ xs. s ∷ xs) (before_none ts t (ap last_of (sym (kept_other s ts none)) ∙ e))
  ]

  -- after a change no more counts
  pub before_some : (ts : List T) (t : T) (c : C) → last_of (filter_map h ts) ≡ Some c → before_first changes (ts ++ t ∷ []) ≡ before_first changes ts
  before_some [] t c e = cc
  before_some (s ∷ ts) t c e = elim (option_cases (h s)) [
    | inl w ↦ before_changing s (ts ++ t ∷ []) w.0 w.1 ∙ sym (before_changing s ts w.0 w.1)
    | inr none ↦ before_other s (ts ++ t ∷ []) none ∙ ap (λ xs. s ∷ xs) (before_some ts t c (ap last_of (sym (kept_other s ts none)) ∙ e))
        ∙ sym (before_other s ts none)
  ]

-- ---- what touches say, with one more
pub change_more : (addr : ℕ) (ts : List Touch) (t : Touch) → change_at addr (ts ++ t ∷ []) ≡ later (change_by addr t) (change_at addr ts)
unfolding change_at
change_more addr ts t = ap last_of (filter_map-append (change_by addr) ts (t ∷ [])) ∙ last_more (filter_map (change_by addr) ts) (change_by addr t)

pub looked_more : (place : ℕ) (ts : List Touch) (t : Touch) → looked_of place (ts ++ t ∷ []) ≡ max (looked_of place ts) (looked_by place t)
looked_more place ts t = ap (fold max 0) (map-append (looked_by place) ts (t ∷ [])) ∙ fold-append max 0 (map (looked_by place) ts) (looked_by place t ∷ [])

pub one_option : {X : Type 0} (o : Option X) → cons_option o [] ≡ option_to_list o
one_option (Some x) = refl
one_option None = refl

pub sum_more : (f : Touch → ℕ) (ts : List Touch) (t : Touch) → sum_by f (ts ++ t ∷ []) ≡ sum_by f ts + f t
sum_more f ts t = sum_by-append f ts (t ∷ []) ∙ ap (λ n. sum_by f ts + n) (zero-add (f t))
