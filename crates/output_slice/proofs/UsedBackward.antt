-- The used outputs by one pass over the pieces, from the last to the first: what is wanted at each place, and the pairs
-- that were met. It gives the used pairs and no others, where the numbers of the calls rise.
use Rattle.std.proofs.Common.{if◌then◌else◌, ◌&&◌, ◌++◌, ◌+◌, ◌<◌, ◌∙◌, ◌∷◌, ◌≡◌, ◌≤◌, ◌⊎◌, [], ℕ, Bool, List, None, Option, Some, ap, append-nil, append_assoc}
use Rattle.std.proofs.Common.{arith, false, inl, inr, is_some, nat_lt, refl, subst, suc, sym, true, zero}
use Rattle.std.proofs.lemmas.Bool.Decides.{eqb_tells, nat_tests}
use Rattle.std.specs.{List.cons_option, List.filter_map, List.range_with_len, Option.option_map}
use Rattle.cell_value.specs.Effects.{change_at, change_by, changes_of, heap_end, is_shared, listed, looked_of, made_of}
use Rattle.cell_value.specs.declared.entries.{Change.Change, Touch.Touch}
use Rattle.cell_value.specs.declared.entries.Touch.TheVariants as touch
use Rattle.core_program.{proofs.Cells.shared_in_heap, specs.Run.Call}
use Rattle.output_slice.proofs.{ActsAlike.false_true, AmongLists.Among, AmongLists.among_either, AmongLists.among_left, AmongLists.among_right}
use Rattle.output_slice.specs.{Pieces.OfChild, Pieces.Own, Pieces.Piece, Pieces.Stands, declared.outputs.Output.Output}
use Rattle.output_slice.specs.Backward.{Wanted, asks_heap, asks_input, back, before_child, before_own, is_asked, looks, met_cell, only, others, used_among}
use Rattle.output_slice.specs.Backward.{used_cells, used_of, with_number}
use Rattle.output_slice.specs.Outputs.{Asks, AtExit, ByChild, ByEnd, ByOwn, Changer, Gathered, IsSource, Maker, Met, Need, Taker, TheCell, TheHeap, TheInput}
use Rattle.output_slice.specs.Outputs.{Used, changed_by, changer_after, changer_in, has_output}
use Rattle.output_slice.specs.declared.outputs.Output.TheVariants.{Cell, Gives, Makes, Takes, Way}
use Rattle.output_slice.specs.declared.outputs.Output.TheVariants as outputs

changer_append : (a : ℕ) (w : Option ℕ) (xs ys : List Piece) → changer_in a w (xs ++ ys) ≡ changer_in a (changer_in a w xs) ys
changer_append a w [] ys = refl
changer_append a w (q ∷ xs) ys = changer_append a (changer_after a w q) xs ys

look_asks : (a : ℕ) (t : Touch) → looks a t ≡ true → Asks t (TheCell a)
look_asks a (touch.Read at v) e = ap TheCell (let q : at ≡ a = grind (arith, nat_tests) in sym q)
look_asks a (touch.Has at b) e = ap TheCell (let q : at ≡ a = grind (arith, nat_tests) in sym q)
look_asks a (touch.Write at v) e = absurd (false_true e)
look_asks a (touch.Make x y z) e = absurd (false_true e)
look_asks a (touch.Drop x y) e = absurd (false_true e)
look_asks a (touch.Look x) e = absurd (false_true e)
look_asks a (touch.Take x) e = absurd (false_true e)
look_asks a (touch.Give x) e = absurd (false_true e)

-- ---- lists

pub numbered_has : (n : ℕ) (xs : List Output) (x : Output) → Among x xs → Among (n, x) (with_number n xs)
numbered_has n [] x h = absurd h
numbered_has n (y ∷ xs) x (inl q) = inl (ap (λ z. (n, z)) q)
numbered_has n (y ∷ xs) x (inr h) = inr (numbered_has n xs x h)

pub numbered_of : (n m : ℕ) (xs : List Output) (x : Output) → Among (m, x) (with_number n xs) → (n ≡ m) × Among x xs
numbered_of n m [] x h = absurd h
numbered_of n m (y ∷ xs) x (inl q) = (ap (λ (z : ℕ × Output). z.0) q, inl (ap (λ (z : ℕ × Output). z.1) q))
numbered_of n m (y ∷ xs) x (inr h) = let r = numbered_of n m xs x h in (r.0, inr r.1)

-- ---- the outputs of a call that are used

abbrev pub entries : (ℕ → Option Change) → ℕ → ℕ → List (ℕ × Change)
entries f at n = filter_map (λ q. option_map (λ x. (q, x)) (f q)) (range_with_len at n)

pub cells_first : (w : Wanted) (at : ℕ) (o : Option Change) (xs : List (ℕ × Change))
    → used_cells w (cons_option (option_map (λ x. (at, x)) o) xs) ≡ (if is_some o && w.cells at then Cell at ∷ used_cells w xs else used_cells w xs)
cells_first w at None xs = refl
cells_first w at (Some c) xs = refl

cells_has : (w : Wanted) (f : ℕ → Option Change) (n at a : ℕ) → at ≤ a → a < at + n → is_some (f a) ≡ true → w.cells a ≡ true
    → Among (Cell a) (used_cells w (entries f at n))
cells_has w f zero at a h k e q = absurd (omega (arith, h, k))
cells_has w f (suc n) at a h k e q = subst (Among (Cell a)) (sym (cells_first w at (f at) (entries f (at + 1) n))) (elim (eqb_tells at a) [
  | inl s ↦ here s.1
  | inr s ↦ later (is_some (f at) && w.cells at) (cells_has w f n (at + 1) a (let ne = s.1 in omega (arith, h)) (omega (arith, k)) e q)
])
  where
    later : (b : Bool) → Among (Cell a) (used_cells w (entries f (at + 1) n))
        → Among (Cell a) (if b then Cell at ∷ used_cells w (entries f (at + 1) n) else used_cells w (entries f (at + 1) n))
    later true g = inr g
    later false g = g

    here : at ≡ a → Among (Cell a) (if is_some (f at) && w.cells at then Cell at ∷ used_cells w (entries f (at + 1) n) else used_cells w (entries f (at + 1) n))
    here s = subst (λ b. Among (Cell a) (if b then Cell at ∷ used_cells w (entries f (at + 1) n) else used_cells w (entries f (at + 1) n)))
        (sym (ap (λ a. is_some (f a) && w.cells a) s ∙ ap (λ b. b && w.cells a) e ∙ q)) (inl (ap Cell s))

pub cells_of : (w : Wanted) (f : ℕ → Option Change) (n at : ℕ) (x : Output) → Among x (used_cells w (entries f at n))
    → (a : ℕ) × (x ≡ Cell a) × (is_some (f a) ≡ true) × (w.cells a ≡ true)
cells_of w f zero at x h = absurd h
cells_of w f (suc n) at x h = by (is_some (f at)) (w.cells at) refl refl (cells_of w f n (at + 1) x)
    (subst (Among x) (cells_first w at (f at) (entries f (at + 1) n)) h)
  where
    by : (b d : Bool) → is_some (f at) ≡ b → w.cells at ≡ d
        → (Among x (used_cells w (entries f (at + 1) n)) → (a : ℕ) × (x ≡ Cell a) × (is_some (f a) ≡ true) × (w.cells a ≡ true))
        → Among x (if b && d then Cell at ∷ used_cells w (entries f (at + 1) n) else used_cells w (entries f (at + 1) n))
        → (a : ℕ) × (x ≡ Cell a) × (is_some (f a) ≡ true) × (w.cells a ≡ true)
    by true true e q k (inl g) = (at, sym g, e, q)
    by true true e q k (inr g) = k g
    by true false e q k g = k g
    by false d e q k g = k g

changed_in_heap : (c : Call) (a : ℕ) → has_output c (Cell a) ≡ true → a < heap_end
changed_in_heap c a e = by (is_shared c.base a) refl e
  where
    by : (b : Bool) → is_shared c.base a ≡ b → is_some (if b then change_at a c.log else None) ≡ true → a < heap_end
    by true q e = shared_in_heap c.base a q
    by false q e = absurd (false_true e)

pub changes_are : (c : Call) → changes_of c.base c.log ≡ entries (changed_by c) 0 heap_end
unfolding listed
changes_are c = refl

cells_has_at : (w : Wanted) (c : Call) (n : ℕ) (xs : List (ℕ × Change)) → xs ≡ entries (changed_by c) 0 n → (a : ℕ) → a < n
    → has_output c (Cell a) ≡ true → w.cells a ≡ true → Among (Cell a) (used_cells w xs)
cells_has_at w c n xs s a h e q = subst (λ l. Among (Cell a) (used_cells w l)) (sym s) (cells_has w (changed_by c) n 0 a (omega arith) (omega (arith, h)) e q)

cells_of_at : (w : Wanted) (c : Call) (n : ℕ) (xs : List (ℕ × Change)) → xs ≡ entries (changed_by c) 0 n → (x : Output) → Among x (used_cells w xs)
    → (a : ℕ) × (x ≡ Cell a) × (has_output c (Cell a) ≡ true) × (w.cells a ≡ true)
cells_of_at w c n xs s x h = cells_of w (changed_by c) n 0 x (subst (λ l. Among x (used_cells w l)) s h)

used_cell_has : (w : Wanted) (c : Call) (a : ℕ) → has_output c (Cell a) ≡ true → w.cells a ≡ true → Among (Cell a) (used_cells w (changes_of c.base c.log))
used_cell_has w c a e q = cells_has_at w c heap_end (changes_of c.base c.log) (changes_are c) a (changed_in_heap c a e) e q

used_cell_of : (w : Wanted) (c : Call) (x : Output) → Among x (used_cells w (changes_of c.base c.log))
    → (a : ℕ) × (x ≡ Cell a) × (has_output c (Cell a) ≡ true) × (w.cells a ≡ true)
used_cell_of w c x h = cells_of_at w c heap_end (changes_of c.base c.log) (changes_are c) x h

both : (a b : Bool) → (a && b) ≡ true → (a ≡ true) × (b ≡ true)
both true b e = (refl, e)
both false b e = absurd (false_true e)

among_of : (wants : Output → Bool) (w : Wanted) (c : Call) (xs : List Output) (x : Output) → Among x (used_among wants w c xs)
    → (has_output c x ≡ true) × (is_asked wants w x ≡ true)
among_of wants w c [] x h = absurd h
among_of wants w c (y ∷ ys) x h = by (has_output c y && is_asked wants w y) refl (among_of wants w c ys x) h
  where
    by : (b : Bool) → (has_output c y && is_asked wants w y) ≡ b
        → (Among x (used_among wants w c ys) → (has_output c x ≡ true) × (is_asked wants w x ≡ true))
        → Among x (if b then y ∷ used_among wants w c ys else used_among wants w c ys) → (has_output c x ≡ true) × (is_asked wants w x ≡ true)
    by true q k (inl e) = both (has_output c x) (is_asked wants w x) (ap (λ x. has_output c x && is_asked wants w x) (sym e) ∙ q)
    by true q k (inr g) = k g
    by false q k g = k g

among_has : (wants : Output → Bool) (w : Wanted) (c : Call) (xs : List Output) (x : Output) → Among x xs → has_output c x ≡ true
    → is_asked wants w x ≡ true → Among x (used_among wants w c xs)
among_has wants w c [] x h e q = absurd h
among_has wants w c (y ∷ ys) x (inl s) e q =
    subst (λ b. Among x (if b then y ∷ used_among wants w c ys else used_among wants w c ys))
    (sym (ap (λ x. has_output c x && is_asked wants w x) s ∙ ap (λ b. b && is_asked wants w x) e ∙ q)) (inl s)
among_has wants w c (y ∷ ys) x (inr h) e q = by (has_output c y && is_asked wants w y) (among_has wants w c ys x h e q)
  where
    by : (b : Bool) → Among x (used_among wants w c ys) → Among x (if b then y ∷ used_among wants w c ys else used_among wants w c ys)
    by true g = inr g
    by false g = g

pub used_is : (wants : Output → Bool) (w : Wanted) (c : Call) (x : Output) → Among x (used_of wants w c)
    → (has_output c x ≡ true) × (is_asked wants w x ≡ true)
used_is wants w c x h = elim (among_either (used_cells w (changes_of c.base c.log)) (used_among wants w c others) x h) [
  | inl g ↦ (let k = used_cell_of w c x g in
      (ap (has_output c) k.1 ∙ k.2, ap (is_asked wants w) k.1 ∙ k.3))
  | inr g ↦ among_of wants w c others x g
]

one : (wants : Output → Bool) (w : Wanted) (c : Call) (x : Output) → Among x others → has_output c x ≡ true → is_asked wants w x ≡ true
    → Among x (used_of wants w c)
one wants w c x m h e = among_right (used_cells w (changes_of c.base c.log)) (used_among wants w c others) x (among_has wants w c others x m h e)

pub is_used : (wants : Output → Bool) (w : Wanted) (c : Call) (x : Output) → has_output c x ≡ true → is_asked wants w x ≡ true
    → Among x (used_of wants w c)
is_used wants w c (Cell a) h e = among_left (used_cells w (changes_of c.base c.log)) (used_among wants w c others) (Cell a) (used_cell_has w c a h e)
is_used wants w c outputs.Result h e = one wants w c outputs.Result (inl refl) h e
is_used wants w c Gives h e = one wants w c Gives (inr (inl refl)) h e
is_used wants w c Takes h e = one wants w c Takes (inr (inr (inl refl))) h e
is_used wants w c Makes h e = one wants w c Makes (inr (inr (inr (inl refl)))) h e
is_used wants w c Way h e = one wants w c Way (inr (inr (inr (inr (inl refl))))) h e

abbrev pub has_need : Wanted → Need → Bool
has_need w (TheCell a) = w.cells a
has_need w TheInput = w.input
has_need w TheHeap = w.heap

-- the pair is used by one of these outputs
pub record UsedBy (ps : List Piece) (wants : Output → Bool) (n : ℕ) (x : Output) : Type 0 where
  pub by : Output
  pub wanted : wants by ≡ true
  pub used : Used ps by n x

-- ---- each pair met is used

either : (a b : Bool) → (if a then true else b) ≡ true → (a ≡ true) ⊎ (b ≡ true)
either true b e = inl refl
either false b e = inr e

lt_of : (n k : ℕ) → nat_lt n k ≡ true → n < k
lt_of n k e = grind (arith, nat_tests)

pub lt_is : (n k : ℕ) → n < k → nat_lt n k ≡ true
lt_is n k e = grind (arith, nat_tests)

input_asks : (t : Touch) → asks_input t ≡ true → Asks t TheInput
input_asks (touch.Look at) e = refl
input_asks (touch.Take items) e = refl
input_asks (touch.Read x v) e = absurd (false_true e)
input_asks (touch.Has x v) e = absurd (false_true e)
input_asks (touch.Write x v) e = absurd (false_true e)
input_asks (touch.Make x y z) e = absurd (false_true e)
input_asks (touch.Drop x y) e = absurd (false_true e)
input_asks (touch.Give x) e = absurd (false_true e)

heap_asks : (t : Touch) → asks_heap t ≡ true → Asks t TheHeap
heap_asks (touch.Make x y z) e = refl
heap_asks (touch.Look at) e = absurd (false_true e)
heap_asks (touch.Take items) e = absurd (false_true e)
heap_asks (touch.Read x v) e = absurd (false_true e)
heap_asks (touch.Has x v) e = absurd (false_true e)
heap_asks (touch.Write x v) e = absurd (false_true e)
heap_asks (touch.Drop x y) e = absurd (false_true e)
heap_asks (touch.Give x) e = absurd (false_true e)

-- a piece that stands in a list stands in a longer one
stands_more : (ps : List Piece) (q : Piece) (first rest : List Piece) → Stands ps q first → Stands (ps ++ rest) q first
stands_more ps q first rest s = record {
  after = s.after ++ rest;
  is = ap (λ l. l ++ rest) s.is ∙ append_assoc first (q ∷ s.after) rest;
}

module _ (ps : List Piece) (wants : Output → Bool) (some : (o : Output) × (wants o ≡ true)) where
  -- what each output uses
  by_all : (n : ℕ) (x : Output) → Used ps some.0 n x → UsedBy ps wants n x
  by_all n x u = record { by = some.0; wanted = some.1; used = u }

  -- what is wanted after these pieces is used of the calls in them
  record Sound (pre : List Piece) (w : Wanted) : Type 0 where
    cells : (a n : ℕ) → w.cells a ≡ true → changer_in a None pre ≡ Some n → UsedBy ps wants n (Cell a)
    input : w.input ≡ true → (n : ℕ) (c : Call) (first : List Piece) → Stands pre (OfChild n c) first → has_output c Takes ≡ true → UsedBy ps wants n Takes
    heap : w.heap ≡ true → (n : ℕ) (c : Call) (first : List Piece) → Stands pre (OfChild n c) first → has_output c Makes ≡ true → UsedBy ps wants n Makes

  sound_own : (pre u : List Piece) (t : Touch) (w : Wanted) → ps ≡ pre ++ (Own t ∷ u) → Sound (pre ++ Own t ∷ []) w → Sound pre (before_own t w)
  sound_own pre u t w e s = record {
    cells = λ a n h c. by a n (looks a t) (is_some (change_by a t)) refl refl h c;
    input = λ h n c first st k. elim (either (asks_input t) w.input h) [
      | inl q ↦ by_all n Takes (ByOwn pre t TheInput n Takes (record { after = u; is = e }) (input_asks t q) (Taker n c first st k))
      | inr q ↦ s.input q n c first (stands_more pre (OfChild n c) first (Own t ∷ []) st) k
    ];
    heap = λ h n c first st k. elim (either (asks_heap t) w.heap h) [
      | inl q ↦ by_all n Makes (ByOwn pre t TheHeap n Makes (record { after = u; is = e }) (heap_asks t q) (Maker n c first st k))
      | inr q ↦ s.heap q n c first (stands_more pre (OfChild n c) first (Own t ∷ []) st) k
    ];
  }
    where
      by : (a n : ℕ) (x y : Bool) → looks a t ≡ x → is_some (change_by a t) ≡ y → (if x then true else if y then false else w.cells a) ≡ true
          → changer_in a None pre ≡ Some n → UsedBy ps wants n (Cell a)
      by a n true y q r h c = by_all n (Cell a) (ByOwn pre t (TheCell a) n (Cell a) (record { after = u; is = e }) (look_asks a t q) (Changer a n c))
      by a n false true q r h c = absurd (false_true h)
      by a n false false q r h c = s.cells a n h
          (changer_append a None pre (Own t ∷ []) ∙ ap (λ b. if b then None else changer_in a None pre) r ∙ c)

  used_part : (pre u : List Piece) (n : ℕ) (c : Call) (w : Wanted) → ps ≡ pre ++ (OfChild n c ∷ u) → Sound (pre ++ OfChild n c ∷ []) w → (x : Output)
      → has_output c x ≡ true → is_asked wants w x ≡ true → UsedBy ps wants n x
  used_part pre u n c w e s (Cell a) h k = s.cells a n k
      (changer_append a None pre (OfChild n c ∷ []) ∙ ap (λ b. if b then Some n else changer_in a None pre) h)
  used_part pre u n c w e s outputs.Result h k = by_all n outputs.Result (ByEnd pre n c outputs.Result (record { after = u; is = e }) (inl refl) h)
  used_part pre u n c w e s Way h k = by_all n Way (ByEnd pre n c Way (record { after = u; is = e }) (inr refl) h)
  used_part pre u n c w e s Gives h k = record { by = Gives; wanted = k; used = Gathered pre n c (record { after = u; is = e }) tt h }
  used_part pre u n c w e s Takes h k = elim (either (wants Takes) w.input k) [
    | inl q ↦ record { by = Takes; wanted = q; used = Gathered pre n c (record { after = u; is = e }) tt h }
    | inr q ↦ s.input q n c pre (record { after = []; is = refl }) h
  ]
  used_part pre u n c w e s Makes h k = elim (either (wants Makes) w.heap k) [
    | inl q ↦ record { by = Makes; wanted = q; used = Gathered pre n c (record { after = u; is = e }) tt h }
    | inr q ↦ s.heap q n c pre (record { after = []; is = refl }) h
  ]

  -- what a call asks of which something is used
  after_used : (pre u : List Piece) (n : ℕ) (c : Call) (part : Output) (need : Need) (m : ℕ) (from : Output) → ps ≡ pre ++ (OfChild n c ∷ u)
      → UsedBy ps wants n part → Met c need → IsSource pre need m from → UsedBy ps wants m from
  after_used pre u n c part need m from e h met i = record {
    by = h.by;
    wanted = h.wanted;
    used = ByChild pre n c part need m from h.used (record { after = u; is = e }) met i;
  }

  sound_child : (pre u : List Piece) (n : ℕ) (c : Call) (w : Wanted) (us : List Output) → ps ≡ pre ++ (OfChild n c ∷ u) → Sound (pre ++ OfChild n c ∷ []) w
      → ((x : Output) → Among x us → UsedBy ps wants n x) → Sound pre (before_child c us w)
  sound_child pre u n c w [] e s h = record {
    cells = λ a m k g. by a m (has_output c (Cell a)) refl k g;
    input = λ k m d first st g. s.input k m d first (stands_more pre (OfChild m d) first (OfChild n c ∷ []) st) g;
    heap = λ k m d first st g. s.heap k m d first (stands_more pre (OfChild m d) first (OfChild n c ∷ []) st) g;
  }
    where
      by : (a m : ℕ) (x : Bool) → has_output c (Cell a) ≡ x → (if x then false else w.cells a) ≡ true → changer_in a None pre ≡ Some m
          → UsedBy ps wants m (Cell a)
      by a m true q k g = absurd (false_true k)
      by a m false q k g = s.cells a m k (changer_append a None pre (OfChild n c ∷ []) ∙ ap (λ b. if b then Some n else changer_in a None pre) q ∙ g)
  sound_child pre u n c w (v ∷ us) e s h = record {
    cells = λ a m k g. by a m (met_cell c a) (has_output c (Cell a)) refl refl k g;
    input = λ k m d first st g. elim (either (nat_lt 0 (looked_of c.entry.place c.log)) w.input k) [
      | inl q ↦ after_used pre u n c v TheInput m Takes e (h v (inl refl)) (lt_of 0 (looked_of c.entry.place c.log) q) (Taker m d first st g)
      | inr q ↦ s.input q m d first (stands_more pre (OfChild m d) first (OfChild n c ∷ []) st) g
    ];
    heap = λ k m d first st g. elim (either (nat_lt 0 (made_of c.log)) w.heap k) [
      | inl q ↦ after_used pre u n c v TheHeap m Makes e (h v (inl refl)) (lt_of 0 (made_of c.log) q) (Maker m d first st g)
      | inr q ↦ s.heap q m d first (stands_more pre (OfChild m d) first (OfChild n c ∷ []) st) g
    ];
  }
    where
      by : (a m : ℕ) (x y : Bool) → met_cell c a ≡ x → has_output c (Cell a) ≡ y → (if x then true else if y then false else w.cells a) ≡ true
          → changer_in a None pre ≡ Some m → UsedBy ps wants m (Cell a)
      by a m true y r q k g = after_used pre u n c v (TheCell a) m (Cell a) e (h v (inl refl)) r (Changer a m g)
      by a m false true r q k g = absurd (false_true k)
      by a m false false r q k g = s.cells a m k
          (changer_append a None pre (OfChild n c ∷ []) ∙ ap (λ b. if b then Some n else changer_in a None pre) q ∙ g)

  record AllUsed (pre qs : List Piece) : Type 0 where
    sound : Sound pre (back wants qs).wanted
    used : (n : ℕ) (x : Output) → Among (n, x) (back wants qs).pairs → UsedBy ps wants n x

  back_sound : (pre qs : List Piece) → ps ≡ pre ++ qs → AllUsed pre qs
  back_sound pre [] e = record {
    sound = record {
      cells = λ a n h c. record {
        by = Cell a;
        wanted = h;
        used = AtExit a n (Cell a) refl (Changer a n (ap (changer_in a None) (e ∙ append-nil pre) ∙ c));
      };
      input = λ h n c first s k. absurd (false_true h);
      heap = λ h n c first s k. absurd (false_true h);
    };
    used = λ n x h. absurd h;
  }
  back_sound pre (Own t ∷ qs) e =
      let a = back_sound (pre ++ Own t ∷ []) qs (e ∙ sym (append_assoc pre (Own t ∷ []) qs)) in
      record { sound = sound_own pre qs t (back wants qs).wanted e a.sound; used = a.used }
  back_sound pre (OfChild n c ∷ qs) e =
      let w = (back wants qs).wanted in
      let a = back_sound (pre ++ OfChild n c ∷ []) qs (e ∙ sym (append_assoc pre (OfChild n c ∷ []) qs)) in
      let part : (x : Output) → Among x (used_of wants w c) → UsedBy ps wants n x =
      λ x h. (let k = used_is wants w c x h in used_part pre qs n c w e a.sound x k.0 k.1) in
      record {
        sound = sound_child pre qs n c w (used_of wants w c) e a.sound part;
        used = λ m x h. elim (among_either (back wants qs).pairs (with_number n (used_of wants w c)) (m, x) h) [
          | inr g ↦ (let k = numbered_of n m (used_of wants w c) x g in subst (λ m. UsedBy ps wants m x) k.0 (part x k.1))
          | inl g ↦ a.used m x g
        ];
      }

  pub pairs_used : (n : ℕ) (x : Output) → Among (n, x) (back wants ps).pairs → UsedBy ps wants n x
  pairs_used = (back_sound [] ps refl).used

-- a pair met is an output of a call that stands there
pub pair_stands : (wants : Output → Bool) (qs : List Piece) (n : ℕ) (x : Output) → Among (n, x) (back wants qs).pairs
    → (c : Call) × (first : List Piece) × Stands qs (OfChild n c) first × (has_output c x ≡ true)
pair_stands wants [] n x h = absurd h
pair_stands wants (Own t ∷ qs) n x h =
    let r = pair_stands wants qs n x h in
    (r.0, Own t ∷ r.1, record { after = r.2.after; is = ap (λ l. Own t ∷ l) r.2.is }, r.3)
pair_stands wants (OfChild m c ∷ qs) n x h =
    let w = (back wants qs).wanted in
    elim (among_either (back wants qs).pairs (with_number m (used_of wants w c)) (n, x) h) [
      | inr g ↦ (let k = numbered_of m n (used_of wants w c) x g in
          (c, [], record { after = qs; is = ap (λ n. OfChild n c ∷ qs) k.0 }, (used_is wants w c x k.1).0))
      | inl g ↦ (let r = pair_stands wants qs n x g in
          (r.0, OfChild m c ∷ r.1, record { after = r.2.after; is = ap (λ l. OfChild m c ∷ l) r.2.is }, r.3))
    ]

pub only_self : (o : Output) → only o o ≡ true
only_self (Cell a) = grind (arith, nat_tests)
only_self outputs.Result = refl
only_self Gives = refl
only_self Takes = refl
only_self Makes = refl
only_self Way = refl

no : {X : Type 0} → false ≡ true → X
no e = absurd (false_true e)

pub only_is : (o x : Output) → only o x ≡ true → o ≡ x
only_is (Cell a) (Cell b) e = ap Cell (let q : a ≡ b = grind (arith, nat_tests) in q)
only_is outputs.Result outputs.Result e = refl
only_is Gives Gives e = refl
only_is Takes Takes e = refl
only_is Makes Makes e = refl
only_is Way Way e = refl
only_is (Cell a) outputs.Result e = no e
only_is (Cell a) Gives e = no e
only_is (Cell a) Takes e = no e
only_is (Cell a) Makes e = no e
only_is (Cell a) Way e = no e
only_is outputs.Result (Cell b) e = no e
only_is outputs.Result Gives e = no e
only_is outputs.Result Takes e = no e
only_is outputs.Result Makes e = no e
only_is outputs.Result Way e = no e
only_is Gives (Cell b) e = no e
only_is Gives outputs.Result e = no e
only_is Gives Takes e = no e
only_is Gives Makes e = no e
only_is Gives Way e = no e
only_is Takes (Cell b) e = no e
only_is Takes outputs.Result e = no e
only_is Takes Gives e = no e
only_is Takes Makes e = no e
only_is Takes Way e = no e
only_is Makes (Cell b) e = no e
only_is Makes outputs.Result e = no e
only_is Makes Gives e = no e
only_is Makes Takes e = no e
only_is Makes Way e = no e
only_is Way (Cell b) e = no e
only_is Way outputs.Result e = no e
only_is Way Gives e = no e
only_is Way Takes e = no e
only_is Way Makes e = no e
