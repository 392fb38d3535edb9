-- An address of the heap lies above a block that the run made; or the run made none, and then a call's touches show no
-- more of it than that it is missing.
use Rattle.std.proofs.Common.{if◌then◌else◌, ◌++◌, ◌||◌, ◌∙◌, ◌∷◌, ◌≡◌, ◌≤◌, ◌⊎◌, [], ℕ, Bool, List, None, Option, Some, ap, arith, cond, false, filter, inl}
use Rattle.std.proofs.Common.{inr, nat_eq, nat_le, refl, subst, sym, true}
use Rattle.std.proofs.lemmas.{Bool.Decides.nat_tests, List.Elements.filter-append}
use Rattle.std.specs.{List.cons_option, List.filter_map, List.list_any, Option.IsSome}
use Rattle.cell_value.specs.Effects.{asked_by, change_at, change_by, heap_start, last_of, read_by, seen_at, seen_by}
use Rattle.cell_value.specs.declared.entries.{Change.TheVariants.Set, Seen.Seen, Seen.TheVariants.Absent, Touch.Touch}
use Rattle.core_program.proofs.{ActionsMeant.no, OutcomesCompose.none_some, OutcomesCompose.some_same}
use Rattle.core_program.proofs.Touches.{first_asked, first_read, or_later, seen_is}
use Rattle.run_laws.{proofs.HeapMadeFirst.AllIdle, proofs.HeapMadeFirst.IsIdle, proofs.HeapMadeFirst.MadeFirst, specs.HeapLaws.makes_variable}
use Rattle.cell_names.specs.{Finding.block_by, Finding.blocks_of, Layouts.part, Places.is_begun, Places.last_at, declared.places.PlacedPart.PlacedPart}

-- ---- blocks that are found

abbrev Some' : List PlacedPart → Type 0
Some' [] = ⊥
Some' (x ∷ xs) = Unit {0}

last_some : (xs : List PlacedPart) → Some' xs → IsSome (last_of xs)
last_some [] h = absurd h
last_some (x ∷ []) h = refl
last_some (x ∷ y ∷ ys) h = last_some (y ∷ ys) tt

some_after : (xs ys : List PlacedPart) → Some' ys → Some' (xs ++ ys)
some_after [] ys h = h
some_after (x ∷ xs) ys h = tt

begun_first : (a at kind : ℕ) (xs : List PlacedPart) → at ≤ a → Some' (filter (is_begun a) (part at kind ∷ xs))
begun_first a at kind xs l = by (nat_le at a) refl
  where
    by : (b : Bool) → nat_le at a ≡ b → Some' (cond b (part at kind ∷ filter (is_begun a) xs) (filter (is_begun a) xs))
    by true e = tt
    by false e = no (sym e ∙ (grind (arith, nat_tests)))

-- a block begins there or below, or none was made at all
begun_or_idle : (a : ℕ) → heap_start ≤ a → (w : List Touch) → MadeFirst w → Some' (filter (is_begun a) (blocks_of w)) ⊎ AllIdle w
begun_or_idle a l [] h = inr tt
begun_or_idle a l (Touch.Make at cells kind ∷ w) (inl e) = inl (begun_first a at kind (blocks_of w) (subst (λ n. n ≤ a) (sym e) l))
begun_or_idle a l (t ∷ w) (inl e) = absurd e
begun_or_idle a l (t ∷ w) (inr h) = elim (begun_or_idle a l w h.1) [
  | inl s ↦ inl (subst Some' (sym (filter-append (is_begun a) (block_by t) (blocks_of w)))
      (some_after (filter (is_begun a) (block_by t)) (filter (is_begun a) (blocks_of w)) s))
  | inr i ↦ inr (h.0, i)
]

idle_unless : (o : Option PlacedPart) → o ≡ None → IsSome o → ⊥
idle_unless None e h = no h
idle_unless (Some x) e h = none_some (sym e)

pub idle_log : (a : ℕ) → heap_start ≤ a → (w : List Touch) → MadeFirst w → last_at a (blocks_of w) ≡ None → AllIdle w
unfolding last_at
idle_log a l w h n = elim (begun_or_idle a l w h) [
  | inl s ↦ absurd (idle_unless (last_of (filter (is_begun a) (blocks_of w))) n (last_some (filter (is_begun a) (blocks_of w)) s))
  | inr i ↦ i
]

-- ---- idle touches

pub none_made : (w : List Touch) → AllIdle w → list_any makes_variable w ≡ false
none_made [] h = refl
none_made (t ∷ w) h = ap (λ b. b || list_any makes_variable w) h.0.0 ∙ none_made w h.1

pub idle_right : (v w : List Touch) → AllIdle (v ++ w) → AllIdle w
idle_right [] w h = h
idle_right (t ∷ v) w h = idle_right v w h.1

pub idle_left : (v w : List Touch) → AllIdle (v ++ w) → AllIdle v
idle_left [] w h = tt
idle_left (t ∷ v) w h = (h.0, idle_left v w h.1)

module _ (a : ℕ) (l : heap_start ≤ a) where
  high : (b : ℕ) → nat_eq b a ≡ true → nat_le heap_start b ≡ true
  high b e = let q : b ≡ a = grind (arith, nat_tests) in grind (arith, nat_tests, l, q)

  idle_change : (t : Touch) → IsIdle t → change_by a t ≡ None
  idle_change (Touch.Write b v) h = by (nat_eq b a) refl
    where
      by : (q : Bool) → nat_eq b a ≡ q → (if q then Some (Set v) else None) ≡ None
      by true q = no (sym h.1 ∙ high b q)
      by false q = refl
  idle_change (Touch.Make b cells kind) h = no (sym h.0)
  idle_change (Touch.Drop b cells) h = no (sym h.1)
  idle_change t h = refl

  idle_read : (t : Touch) → IsIdle t → read_by a t ≡ None
  idle_read (Touch.Read b v) h = by (nat_eq b a) refl
    where
      by : (q : Bool) → nat_eq b a ≡ q → (if q then Some v else None) ≡ None
      by true q = no (sym h.1 ∙ high b q)
      by false q = refl
  idle_read t h = refl

  idle_asked : (t : Touch) → IsIdle t → (x : Bool) → asked_by a t ≡ Some x → (x ≡ false) × (t ≡ Touch.Has a false)
  idle_asked (Touch.Has b true) h x e = by (nat_eq b a) refl e
    where
      by : (q : Bool) → nat_eq b a ≡ q → (if q then Some true else None) ≡ Some x → (x ≡ false) × (Touch.Has b true ≡ Touch.Has a false)
      by true q e = no (sym h.1 ∙ high b q)
      by false q e = absurd (none_some e)
  idle_asked (Touch.Has b false) h x e = by (nat_eq b a) refl e
    where
      by : (q : Bool) → nat_eq b a ≡ q → (if q then Some false else None) ≡ Some x → (x ≡ false) × (Touch.Has b false ≡ Touch.Has a false)
      by true q e = (sym (some_same e), ap (λ b. Touch.Has b false) (let n : b ≡ a = grind (arith, nat_tests) in n))
      by false q e = absurd (none_some e)
  idle_asked t h x e = absurd (none_some e)

  -- the cell was missed among these touches
  pub record Missed (w : List Touch) : Type 0 where
    pub before : List Touch
    pub after : List Touch
    pub is : w ≡ before ++ Touch.Has a false ∷ after

  missed_later : (t : Touch) (w : List Touch) → Missed w → Missed (t ∷ w)
  missed_later t w m = record { before = t ∷ m.before; after = m.after; is = ap (λ w. t ∷ w) m.is }

  unread : (w : List Touch) → AllIdle w → first_read a w ≡ None
  unread [] h = refl
  unread (t ∷ w) h = ap (λ c. or_later c (read_by a t) (first_read a w)) (idle_change t h.0)
      ∙ ap (λ o. or_later None o (first_read a w)) (idle_read t h.0) ∙ unread w h.1

  asked : (w : List Touch) → AllIdle w → (x : Bool) → first_asked a w ≡ Some x → (x ≡ false) × Missed w
  asked [] h x e = absurd (none_some e)
  asked (t ∷ w) h x e = by (λ e. asked w h.1 x e) (asked_by a t) refl
      (sym (ap (λ c. or_later c (asked_by a t) (first_asked a w)) (idle_change t h.0)) ∙ e)
    where
      by : (first_asked a w ≡ Some x → (x ≡ false) × Missed w) → (o : Option Bool) → asked_by a t ≡ o → or_later None o (first_asked a w) ≡ Some x
          → (x ≡ false) × Missed (t ∷ w)
      by go (Some y) q e =
          let i = idle_asked t h.0 y q in
          (sym (some_same e) ∙ i.0, record { before = []; after = w; is = ap (λ t. t ∷ w) i.1 })
      by go None q e = let g = go e in (g.0, missed_later t w g.1)

  pub seen_missed : (w : List Touch) → AllIdle w → (x : Seen) → seen_at a w ≡ Some x → (x ≡ Absent) × Missed w
  seen_missed w h x e = by (first_asked a w) refl (ap (λ r. seen_by r (first_asked a w)) (sym (unread w h)) ∙ sym (seen_is a w) ∙ e)
    where
      by : (o : Option Bool) → first_asked a w ≡ o → seen_by None o ≡ Some x → (x ≡ Absent) × Missed w
      by (Some true) q e = no (sym (asked w h true q).0)
      by (Some false) q e = (sym (some_same e), (asked w h false q).1)
      by None q e = absurd (none_some e)

  changed_none : (w : List Touch) → AllIdle w → filter_map (change_by a) w ≡ []
  changed_none [] h = refl
  changed_none (t ∷ w) h = ap (λ c. cons_option c (filter_map (change_by a) w)) (idle_change t h.0) ∙ changed_none w h.1

  pub unchanged : (w : List Touch) → AllIdle w → change_at a w ≡ None
  unfolding change_at
  unchanged w h = ap last_of (changed_none w h)
