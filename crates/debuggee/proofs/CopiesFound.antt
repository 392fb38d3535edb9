-- Where no copy is found that has a place of a frame, no parameter has a copy that begins there or before.
use Rattle.std.proofs.Common.{if◌then◌else◌, ◌-◌, ◌<◌, ◌∙◌, ◌∷◌, ◌≡◌, ◌≤◌, [], ℕ, Bool, List, None, Option, Some, ap, arith, cond, false, filter, nat_le, refl}
use Rattle.std.proofs.Common.{subst, suc, sym, true, zero}
use Rattle.std.proofs.lemmas.Bool.Decides.{nat_tests}
use Rattle.cell_value.specs.Effects.{last_of}
use Rattle.core_program.proofs.OutcomesCompose.{none_some, some_same}
use Rattle.cell_names.specs.{Layouts.frame_parts, Places.is_begun, Places.last_at, declared.names.Frame.Frame, declared.places.PlacedPart.PlacedPart}
use Rattle.cell_names.specs.Names.{Scene, begun_or, copy_before, copy_by, copy_of}
use Rattle.question_text.specs.Cards.{Recorded, scene_of}

-- ---- the last of some parts that begins at a place or before it, and at an earlier one

abbrev latest : Option PlacedPart → Option PlacedPart → Option PlacedPart
latest o None = o
latest o (Some x) = Some x

latest_some : (x y : PlacedPart) (o : Option PlacedPart) → latest (Some y) o ≡ latest (Some x) (latest (Some y) o)
latest_some x y None = refl
latest_some x y (Some z) = refl

last_more : (x : PlacedPart) (xs : List PlacedPart) → last_of (x ∷ xs) ≡ latest (Some x) (last_of xs)
last_more x [] = refl
last_more x (y ∷ ys) = last_more y ys ∙ latest_some x y (last_of ys) ∙ ap (latest (Some x)) (sym (last_more y ys))

never_none : (x : PlacedPart) (o : Option PlacedPart) → latest (Some x) o ≡ None → ⊥
never_none x None e = none_some (sym e)
never_none x (Some y) e = none_some (sym e)

abbrev begun : (at : ℕ) → List PlacedPart → List PlacedPart
begun at xs = filter (is_begun at) xs

last_is : (at : ℕ) (xs : List PlacedPart) → last_at at xs ≡ last_of (begun at xs)
unfolding last_at
last_is at xs = refl

none_earlier : (at from : ℕ) → at ≤ from → (xs : List PlacedPart) → last_of (begun from xs) ≡ None → last_of (begun at xs) ≡ None
none_earlier at from l [] e = refl
none_earlier at from l (x ∷ xs) e = by (none_earlier at from l xs) (is_begun from x) refl (is_begun at x) refl e
  where
    by : (last_of (begun from xs) ≡ None → last_of (begun at xs) ≡ None) → (a : Bool) → is_begun from x ≡ a → (b : Bool) → is_begun at x ≡ b
        → last_of (cond a (x ∷ begun from xs) (begun from xs)) ≡ None → last_of (cond b (x ∷ begun at xs) (begun at xs)) ≡ None
    by go true p b q e = absurd (never_none x (last_of (begun from xs)) (sym (last_more x (begun from xs)) ∙ e))
    by go false p true q e = absurd (let z : ⊥ = grind (arith, nat_tests, l, p, q) in z)
    by go false p false q e = go e

last_begun : (at : ℕ) (xs : List PlacedPart) (y : PlacedPart) → last_of (begun at xs) ≡ Some y → y.place ≤ at
last_begun at [] y e = absurd (none_some e)
last_begun at (x ∷ xs) y e = by (last_begun at xs y) (is_begun at x) refl e
  where
    first : (last_of (begun at xs) ≡ Some y → y.place ≤ at) → x.place ≤ at → (o : Option PlacedPart) → last_of (begun at xs) ≡ o
        → latest (Some x) o ≡ Some y → y.place ≤ at
    first go l None q e = subst (λ (z : PlacedPart). z.place ≤ at) (some_same e) l
    first go l (Some z) q e = go (q ∙ e)

    by : (last_of (begun at xs) ≡ Some y → y.place ≤ at) → (a : Bool) → is_begun at x ≡ a
        → last_of (cond a (x ∷ begun at xs) (begun at xs)) ≡ Some y → y.place ≤ at
    by go true p e = first go (let l : x.place ≤ at = grind (arith, nat_tests) in l) (last_of (begun at xs)) refl (sym (last_more x (begun at xs)) ∙ e)
    by go false p e = go e

abbrev IsLast : (at from : ℕ) → PlacedPart → List PlacedPart → Type 0
IsLast at from y xs = last_of (begun from xs) ≡ Some y → y.place ≤ at → last_of (begun at xs) ≡ Some y

last_earlier : (at from : ℕ) → at ≤ from → (xs : List PlacedPart) (y : PlacedPart) → IsLast at from y xs
last_earlier at from l [] y e k = absurd (none_some e)
last_earlier at from l (x ∷ xs) y e k = by (last_earlier at from l xs y) (is_begun from x) refl (is_begun at x) refl e
  where
    first : IsLast at from y xs → (o : Option PlacedPart) → last_of (begun from xs) ≡ o → latest (Some x) o ≡ Some y → (b : Bool) → is_begun at x ≡ b
        → last_of (cond b (x ∷ begun at xs) (begun at xs)) ≡ Some y
    first go None p e true q = last_more x (begun at xs) ∙ ap (latest (Some x)) (none_earlier at from l xs p) ∙ e
    first go None p e false q =
        let m : x.place ≤ at = subst (λ (z : PlacedPart). z.place ≤ at) (sym (some_same e)) k in
        absurd (let z : ⊥ = grind (arith, nat_tests, m, q) in z)
    first go (Some z) p e true q = last_more x (begun at xs) ∙ ap (latest (Some x)) (go (p ∙ e) k)
    first go (Some z) p e false q = go (p ∙ e) k

    by : IsLast at from y xs → (a : Bool) → is_begun from x ≡ a → (b : Bool) → is_begun at x ≡ b → last_of (cond a (x ∷ begun from xs) (begun from xs)) ≡ Some y
        → last_of (cond b (x ∷ begun at xs) (begun at xs)) ≡ Some y
    by go true p b q e = first go (last_of (begun from xs)) refl (sym (last_more x (begun from xs)) ∙ e) b q
    by go false p true q e = absurd (let z : ⊥ = grind (arith, nat_tests, l, p, q) in z)
    by go false p false q e = go e k

-- ---- the copy of a parameter

none_begun : (place : ℕ) (rest : Option PlacedPart) (copy : PlacedPart) → begun_or place rest (Some copy) ≡ None → place < copy.place
none_begun place rest copy n = by (is_begun place copy) refl n
  where
    by : (b : Bool) → is_begun place copy ≡ b → (if b then Some copy else rest) ≡ None → place < copy.place
    by true q n = absurd (none_some (sym n))
    by false q n = grind (arith, nat_tests)

rest_none : (place : ℕ) (rest o : Option PlacedPart) → begun_or place rest o ≡ None → rest ≡ None
rest_none place rest None n = n
rest_none place rest (Some copy) n = by (is_begun place copy) n
  where
    by : (b : Bool) → (if b then Some copy else rest) ≡ None → rest ≡ None
    by true n = absurd (none_some (sym n))
    by false n = n

module _ (k : Recorded) (number : ℕ) (f : Frame) (place : ℕ) where
  abbrev scene : Scene
  scene = scene_of k number

  abbrev parts : List PlacedPart
  parts = frame_parts k.program f.routine

  -- what is sought goes back over the parameters, and comes by each
  abbrev NoCopyFrom : (from : ℕ) → Type 0
  NoCopyFrom from = (at : ℕ) (x copy : PlacedPart) → at ≤ from → last_at at parts ≡ Some x → copy_of scene f x ≡ Some copy → place < copy.place

  abbrev GoesBack : (most : ℕ) → Type 0
  GoesBack most = (from : ℕ) → from < most → copy_before scene f place most from ≡ None → NoCopyFrom from

  pub no_copy_from : (most : ℕ) → GoesBack most
  no_copy_from zero from l n at x copy less e c = absurd (omega (arith, l))
  no_copy_from (suc most) from l n at x copy less e c = by (no_copy_from most) (last_at from parts) refl n
    where
      by_part : GoesBack most → (y : PlacedPart) → last_at from parts ≡ Some y
          → begun_or place (copy_before scene f place most (y.place - 1)) (copy_of scene f y) ≡ None → (b : Bool) → nat_le y.place at ≡ b → place < copy.place
      by_part go y q n true t =
          let m : y.place ≤ at = grind (arith, nat_tests) in
          let same : x ≡ y = some_same (sym e ∙ last_is at parts ∙ last_earlier at from less parts y (sym (last_is from parts) ∙ q) m) in
          none_begun place (copy_before scene f place most (y.place - 1)) copy
          (ap (begun_or place (copy_before scene f place most (y.place - 1))) (sym (ap (copy_of scene f) (sym same) ∙ c)) ∙ n)
      by_part go y q n false t =
          let m : at < y.place = grind (arith, nat_tests) in
          let b : y.place ≤ from = last_begun from parts y (sym (last_is from parts) ∙ q) in
          go (y.place - 1) (omega (arith, m, b, l)) (rest_none place (copy_before scene f place most (y.place - 1)) (copy_of scene f y) n)
          at x copy (omega (arith, m)) e c

      by : GoesBack most → (o : Option PlacedPart) → last_at from parts ≡ o → copy_by scene f place (copy_before scene f place most) o ≡ None
          → place < copy.place
      by go None q n = absurd (none_some (sym (none_earlier at from less parts (sym (last_is from parts) ∙ q)) ∙ sym (last_is at parts) ∙ e))
      by go (Some y) q n = by_part go y q n (nat_le y.place at) refl
