-- No pair is met twice: the outputs of a call are listed once, the numbers of the calls rise in a call's pieces, and a call has one parent.
use Rattle.std.proofs.Common.{if◌then◌else◌, ◌&&◌, ◌++◌, ◌+◌, ◌-◌, ◌<◌, ◌∙◌, ◌∷◌, ◌≡◌, ◌≤◌, ◌⊎◌, [], ℕ, Bool, List, None, Option, Some, ap, arith, drop, false}
use Rattle.std.proofs.Common.{inl, inr, is_some, length, refl, subst, suc, sym, take, true, zero}
use Rattle.std.specs.List.{slice_get}
use Rattle.cell_value.specs.{Effects.changes_of, Effects.heap_end, declared.entries.Change.Change}
use Rattle.core_program.proofs.{NestedCallsAreIntervals.Forest, OutcomesCompose.some_same}
use Rattle.core_program.specs.{Numbering.belows, Numbering.parent_of, Run.Call, Run.Marked, State.State}
use Rattle.core_program.specs.Run as meaning
use Rattle.output_slice.proofs.{AmongLists.Among, AmongLists.among_either, ChildrenOfPieces.child_of, ChildrenOfPieces.holds, SliceByOnePass.more_later}
use Rattle.output_slice.proofs.BackwardIsWhole.{Rising, cut_rises, pairs_apart, rising_apart}
use Rattle.output_slice.proofs.UsedBackward.{cells_first, cells_of, changes_are, entries, numbered_of, pair_stands}
use Rattle.output_slice.specs.{Backward.with_call, Backward.with_number, Outputs.changed_by, Outputs.has_output, declared.outputs.Output.Output}
use Rattle.output_slice.specs.Backward.{Wanted, back, is_asked, more_at, others, pass, slice_list, some_at, used_among, used_cells, used_of, wants_at}
use Rattle.output_slice.specs.Pieces.{OfChild, Own, Piece, pieces_of}
use Rattle.output_slice.specs.declared.outputs.Output.TheVariants.{Cell, Gives, Makes, Takes, Way}
use Rattle.output_slice.specs.declared.outputs.Output.TheVariants as outputs

abbrev pub Once : {X : Type 0} → List X → Type 0
Once [] = Unit {0}
Once (x ∷ xs) = (Among x xs → ⊥) × Once xs

once_append : {X : Type 0} (xs ys : List X) → Once xs → Once ys → ((x : X) → Among x xs → Among x ys → ⊥) → Once (xs ++ ys)
once_append [] ys h g d = g
once_append (x ∷ xs) ys h g d = (
  (λ a. elim (among_either xs ys x a) [ inl b ↦ h.0 b | inr b ↦ d x (inl refl) b ]),
  once_append xs ys h.1 g (λ y a b. d y (inr a) b),
)

once_numbered : (n : ℕ) (xs : List Output) → Once xs → Once (with_number n xs)
once_numbered n [] h = tt
once_numbered n (x ∷ xs) h = ((λ a. h.0 (numbered_of n n xs x a).1), once_numbered n xs h.1)

-- ---- the outputs of a call

-- the address of a cell, and 0 of what is none
abbrev address_of : Output → ℕ
address_of (Cell a) = a
address_of x = 0

cells_from : (w : Wanted) (f : ℕ → Option Change) (n at a : ℕ) → Among (Cell a) (used_cells w (entries f at n)) → at ≤ a
cells_from w f zero at a h = absurd h
cells_from w f (suc n) at a h =
    by (is_some (f at) && w.cells at) (λ g. cells_from w f n (at + 1) a g) (subst (Among (Cell a)) (cells_first w at (f at) (entries f (at + 1) n)) h)
  where
    by : (b : Bool) → (Among (Cell a) (used_cells w (entries f (at + 1) n)) → at + 1 ≤ a)
        → Among (Cell a) (if b then Cell at ∷ used_cells w (entries f (at + 1) n) else used_cells w (entries f (at + 1) n)) → at ≤ a
    by true go (inl e) = omega (arith, ap address_of e)
    by true go (inr g) = omega (arith, go g)
    by false go g = omega (arith, go g)

once_entries : (w : Wanted) (f : ℕ → Option Change) (n at : ℕ) → Once (used_cells w (entries f at n))
once_entries w f zero at = tt
once_entries w f (suc n) at = subst Once (sym (cells_first w at (f at) (entries f (at + 1) n)))
    (by (is_some (f at) && w.cells at) (once_entries w f n (at + 1)))
  where
    by : (b : Bool) → Once (used_cells w (entries f (at + 1) n))
        → Once (if b then Cell at ∷ used_cells w (entries f (at + 1) n) else used_cells w (entries f (at + 1) n))
    by true h = ((λ g. omega (arith, cells_from w f n (at + 1) at g)), h)
    by false h = h

once_cells : (w : Wanted) (c : Call) (n : ℕ) (xs : List (ℕ × Change)) → xs ≡ entries (changed_by c) 0 n → Once (used_cells w xs)
once_cells w c n xs e = subst (λ l. Once (used_cells w l)) (sym e) (once_entries w (changed_by c) n 0)

cells_are : (w : Wanted) (c : Call) (n : ℕ) (xs : List (ℕ × Change)) → xs ≡ entries (changed_by c) 0 n → (x : Output) → Among x (used_cells w xs)
    → (a : ℕ) × (x ≡ Cell a)
cells_are w c n xs e x h = let r = cells_of w (changed_by c) n 0 x (subst (λ l. Among x (used_cells w l)) e h) in (r.0, r.1)

among_of_others : (wants : Output → Bool) (w : Wanted) (c : Call) (xs : List Output) (x : Output) → Among x (used_among wants w c xs) → Among x xs
among_of_others wants w c [] x h = h
among_of_others wants w c (y ∷ ys) x h = by (has_output c y && is_asked wants w y) (among_of_others wants w c ys x) h
  where
    by : (b : Bool) → (Among x (used_among wants w c ys) → Among x ys)
        → Among x (if b then y ∷ used_among wants w c ys else used_among wants w c ys) → Among x (y ∷ ys)
    by true k (inl e) = inl e
    by true k (inr g) = inr (k g)
    by false k g = inr (k g)

once_among : (wants : Output → Bool) (w : Wanted) (c : Call) (xs : List Output) → Once xs → Once (used_among wants w c xs)
once_among wants w c [] h = tt
once_among wants w c (y ∷ ys) h = by (has_output c y && is_asked wants w y) (once_among wants w c ys h.1)
  where
    by : (b : Bool) → Once (used_among wants w c ys) → Once (if b then y ∷ used_among wants w c ys else used_among wants w c ys)
    by true g = ((λ a. h.0 (among_of_others wants w c ys y a)), g)
    by false g = g

-- which kind of output it is
abbrev kind_of : Output → ℕ
kind_of (Cell a) = 0
kind_of outputs.Result = 1
kind_of Gives = 2
kind_of Takes = 3
kind_of Makes = 4
kind_of Way = 5

-- the kinds rise, from this one on
abbrev KindsRise : ℕ → List Output → Type 0
KindsRise k [] = Unit {0}
KindsRise k (x ∷ xs) = (k ≤ kind_of x) × KindsRise (suc (kind_of x)) xs

kind_from : (k : ℕ) (xs : List Output) (x : Output) → KindsRise k xs → Among x xs → k ≤ kind_of x
kind_from k [] x r h = absurd h
kind_from k (y ∷ ys) x r (inl e) = omega (arith, r.0, ap kind_of e)
kind_from k (y ∷ ys) x r (inr h) = omega (arith, r.0, kind_from (suc (kind_of y)) ys x r.1 h)

once_kinds : (k : ℕ) (xs : List Output) → KindsRise k xs → Once xs
once_kinds k [] r = tt
once_kinds k (x ∷ xs) r = ((λ a. omega (arith, kind_from (suc (kind_of x)) xs x r.1 a)), once_kinds (suc (kind_of x)) xs r.1)

others_rise : KindsRise 1 others
others_rise = (omega arith, (omega arith, (omega arith, (omega arith, (omega arith, tt)))))

once_used : (wants : Output → Bool) (w : Wanted) (c : Call) → Once (used_of wants w c)
once_used wants w c = once_append (used_cells w (changes_of c.base c.log)) (used_among wants w c others)
    (once_cells w c heap_end (changes_of c.base c.log) (changes_are c)) (once_among wants w c others (once_kinds 1 others others_rise))
    (λ x a b. (let r = cells_are w c heap_end (changes_of c.base c.log) (changes_are c) x a in
    omega (arith, ap kind_of r.1, kind_from 1 others x others_rise (among_of_others wants w c others x b))))

-- ---- the pieces of a call

once_back : (wants : Output → Bool) (k : ℕ) (ps : List Piece) → Rising k ps → Once (back wants ps).pairs
once_back wants k [] r = tt
once_back wants k (Own t ∷ ps) r = once_back wants k ps r
once_back wants k (OfChild n c ∷ ps) r =
    let us = used_of wants (back wants ps).wanted c in
    once_append (back wants ps).pairs (with_number n us) (once_back wants (suc n) ps r.1) (once_numbered n us (once_used wants (back wants ps).wanted c))
    (λ y a b. pairs_apart wants y.0 y.1 ps (rising_apart (suc n) y.0 ps (omega (arith, (numbered_of n y.0 us y.1 b).0)) r.1) a)

-- ---- the calls

module _ (r : meaning.Result State Call) (forest : Forest (belows r.events)) (call : ℕ) where
  abbrev pub parent : ℕ → Option ℕ
  parent m = parent_of (belows r.events) m

  -- each pair is of the first call, or of one whose parent is below this number
  abbrev pub Parented : ℕ → List (ℕ × Output) → Type 0
  Parented n pairs = (m : ℕ) (x : Output) → Among (m, x) pairs → (m ≡ call) ⊎ ((up : ℕ) × (parent m ≡ Some up) × (up < n))

  -- what a call adds is of its children
  pub more_is : (n : ℕ) (pairs : List (ℕ × Output)) (e : Option (Marked Call)) → slice_get r.events n ≡ e → (m : ℕ) (x : Output)
      → Among (m, x) (more_at r n pairs e) → (parent m ≡ Some n)
  more_is n pairs None q m x h = absurd h
  more_is n pairs (Some e) q m x h =
      let ps = pieces_of r n e in
      let s = pair_stands (wants_at n pairs) ps m x h in
      (child_of r e.mark n e.event.log e m s.0 forest q (holds ps m s.0 s.1 s.2)).parent

  once_more : (n : ℕ) (pairs : List (ℕ × Output)) (e : Option (Marked Call)) → Once (more_at r n pairs e)
  once_more n pairs None = tt
  once_more n pairs (Some e) = once_back (wants_at n pairs) (n + 1) (pieces_of r n e)
      (cut_rises e.mark (n + 1) 0 e.event.log (take e.event.below (drop (n + 1) r.events)))

  pub record OnceFrom (n : ℕ) (pairs : List (ℕ × Output)) : Type 0 where
    pub once : Once pairs
    pub parented : Parented n pairs

  pub call_once : (n : ℕ) (pairs : List (ℕ × Output)) → call ≤ n → OnceFrom n pairs → OnceFrom (suc n) (with_call r n pairs)
  call_once n pairs l h = by (some_at n pairs)
    where
      more : List (ℕ × Output)
      more = more_at r n pairs (slice_get r.events n)

      -- a new pair is not among those before
      apart : (y : ℕ × Output) → Among y pairs → Among y more → ⊥
      apart y a b =
          let p = more_is n pairs (slice_get r.events n) refl y.0 y.1 b in
          elim (h.parented y.0 y.1 a) [
            | inl e ↦ omega (arith, more_later r n pairs (slice_get r.events n) y.0 y.1 b, e, l)
            | inr g ↦ omega (arith, g.2, some_same (sym g.1 ∙ p))
          ]

      by : (b : Bool) → OnceFrom (suc n) (if b then pairs ++ more else pairs)
      by true = record {
        once = once_append pairs more h.once (once_more n pairs (slice_get r.events n)) apart;
        parented = λ m x a. elim (among_either pairs more (m, x) a) [
          | inl g ↦ elim (h.parented m x g) [ inl e ↦ inl e | inr u ↦ inr (u.0, u.1, omega (arith, u.2)) ]
          | inr g ↦ inr (n, more_is n pairs (slice_get r.events n) refl m x g, omega arith)
        ];
      }
      by false = record {
        once = h.once;
        parented = λ m x a. elim (h.parented m x a) [ inl e ↦ inl e | inr u ↦ inr (u.0, u.1, omega (arith, u.2)) ];
      }

  pass_once : (calls n : ℕ) (pairs : List (ℕ × Output)) → call ≤ n → OnceFrom n pairs → Once (pass r calls n pairs)
  pass_once zero n pairs l h = h.once
  pass_once (suc calls) n pairs l h = pass_once calls (suc n) (with_call r n pairs) (omega (arith, l)) (call_once n pairs l h)

  pub slice_once : (o : Output) → Once (slice_list r call o)
  slice_once o = pass_once (length r.events - call) call ((call, o) ∷ []) (omega arith) (record {
    once = ((λ a. a), tt);
    parented = λ m x a. elim a [ inl e ↦ inl (sym (ap (λ (y : ℕ × Output). y.0) e)) | inr g ↦ absurd g ];
  })

found_among : {X : Type 0} (xs : List X) (i : ℕ) (x : X) → slice_get xs i ≡ Some x → Among x xs
found_among [] i x e = absurd (let z : ⊥ = cc in z)
found_among (y ∷ ys) zero x e = inl (some_same e)
found_among (y ∷ ys) (suc i) x e = inr (found_among ys i x e)

-- so two places never have the same element
pub once_places : {X : Type 0} (xs : List X) → Once xs → (i j : ℕ) (x : X) → slice_get xs i ≡ Some x → slice_get xs j ≡ Some x → i ≡ j
once_places [] h i j x e f = absurd (let z : ⊥ = cc in z)
once_places (y ∷ ys) h zero zero x e f = refl
once_places (y ∷ ys) h zero (suc j) x e f = absurd (h.0 (subst (λ z. Among z ys) (sym (some_same e)) (found_among ys j x f)))
once_places (y ∷ ys) h (suc i) zero x e f = absurd (h.0 (subst (λ z. Among z ys) (sym (some_same f)) (found_among ys i x e)))
once_places (y ∷ ys) h (suc i) (suc j) x e f = ap suc (once_places ys h.1 i j x e f)
