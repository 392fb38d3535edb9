-- The pass from the last piece to the first misses no used pair, where the numbers of the calls rise.
use Rattle.std.proofs.Common.{if◌then◌else◌, ◌++◌, ◌+◌, ◌-◌, ◌<◌, ◌∙◌, ◌∷◌, ◌≡◌, ◌≤◌, ◌⊎◌, [], ℕ, Bool, List, None, Option, Some, ap, append-nil, append_assoc}
use Rattle.std.proofs.Common.{arith, drop, false, inl, inr, is_some, length, nat_eq, nat_lt, refl, subst, suc, sym, take, true, zero}
use Rattle.std.proofs.lemmas.Bool.Decides.{nat_tests}
use Rattle.cell_value.specs.{Effects.change_by, Effects.looked_of, Effects.made_of, declared.entries.Touch.Touch}
use Rattle.cell_value.specs.declared.entries.Touch.TheVariants as touch
use Rattle.core_program.{proofs.OutcomesCompose.none_some, proofs.OutcomesCompose.some_same, specs.Run.Call, specs.Run.Marked}
use Rattle.output_slice.proofs.AmongLists.{Among, among_either, among_left, among_right}
use Rattle.output_slice.proofs.UsedBackward.{has_need, is_used, lt_is, numbered_has, numbered_of}
use Rattle.output_slice.specs.Backward.{Wanted, asks_heap, asks_input, back, before_child, before_own, is_asked, looks, met_cell, used_of, with_number}
use Rattle.output_slice.specs.Outputs.{Asks, AtExit, ByChild, ByEnd, ByOwn, Changer, Gathered, IsGathered, IsSource, Maker, Met, Need, Taker, TheCell, TheHeap}
use Rattle.output_slice.specs.Outputs.{TheInput, Used, changer_after, changer_in, has_output}
use Rattle.output_slice.specs.Pieces.{OfChild, Own, Piece, cut, own}
use Rattle.output_slice.specs.declared.outputs.Output.{Output}
use Rattle.output_slice.specs.declared.outputs.Output.TheVariants.{Cell, Gives, Makes, Takes, Way}
use Rattle.output_slice.specs.declared.outputs.Output.TheVariants as outputs

-- ---- calls whose numbers rise

-- no call with this number is in the pieces
abbrev pub Apart : ℕ → List Piece → Type 0
Apart n [] = Unit {0}
Apart n (Own t ∷ ps) = Apart n ps
Apart n (OfChild m c ∷ ps) = (m ≡ n → ⊥) × Apart n ps

-- the numbers rise, and the first is at least this
abbrev pub Rising : ℕ → List Piece → Type 0
Rising k [] = Unit {0}
Rising k (Own t ∷ ps) = Rising k ps
Rising k (OfChild n c ∷ ps) = (k ≤ n) × Rising (suc n) ps

pub rising_less : (j k : ℕ) (ps : List Piece) → j ≤ k → Rising k ps → Rising j ps
rising_less j k [] h r = tt
rising_less j k (Own t ∷ ps) h r = rising_less j k ps h r
rising_less j k (OfChild n c ∷ ps) h r = (omega (arith, h, r.0), r.1)

pub rising_apart : (k n : ℕ) (ps : List Piece) → n < k → Rising k ps → Apart n ps
rising_apart k n [] h r = tt
rising_apart k n (Own t ∷ ps) h r = rising_apart k n ps h r
rising_apart k n (OfChild m c ∷ ps) h r = ((λ e. omega (arith, h, r.0, e)), rising_apart (suc m) n ps (omega (arith, h, r.0)) r.1)

rising_own : (k : ℕ) (w : List Touch) (ps : List Piece) → Rising k ps → Rising k (own w ++ ps)
rising_own k [] ps r = r
rising_own k (t ∷ w) ps r = rising_own k w ps r

rising_touches : (k : ℕ) (w : List Touch) → Rising k (own w)
rising_touches k [] = tt
rising_touches k (t ∷ w) = rising_touches k w

pub cut_rises : (at number skip : ℕ) (log : List Touch) (es : List (Marked Call)) → Rising number (cut at number skip log es)
cut_rises at number skip log [] = rising_touches number log
cut_rises at number zero log (e ∷ es) =
    let rest = cut (e.mark + length e.event.log) (suc number) e.event.below (drop ((e.mark - at) + length e.event.log) log) es in
    rising_own number (take (e.mark - at) log) (OfChild number e.event ∷ rest)
    (omega arith, cut_rises (e.mark + length e.event.log) (suc number) e.event.below (drop ((e.mark - at) + length e.event.log) log) es)
cut_rises at number (suc skip) log (e ∷ es) =
    rising_less number (suc number) (cut at (suc number) skip log es) (omega arith) (cut_rises at (suc number) skip log es)

-- before and after a call there is no other of its number
pub split_apart : (k : ℕ) (before : List Piece) (n : ℕ) (c : Call) (after : List Piece) → Rising k (before ++ (OfChild n c ∷ after))
    → (k ≤ n) × Apart n before × Apart n after
split_apart k [] n c after r = (r.0, tt, rising_apart (suc n) n after (omega arith) r.1)
split_apart k (Own t ∷ before) n c after r = split_apart k before n c after r
split_apart k (OfChild m d ∷ before) n c after r =
    let s = split_apart (suc m) before n c after r.1 in
    (omega (arith, r.0, s.0), ((λ e. omega (arith, s.0, e)), s.1), s.2)

module _ (wants : Output → Bool) where
  pairs_more : (xs qs : List Piece) (x : ℕ × Output) → Among x (back wants qs).pairs → Among x (back wants (xs ++ qs)).pairs
  pairs_more [] qs x h = h
  pairs_more (Own t ∷ xs) qs x h = pairs_more xs qs x h
  pairs_more (OfChild n c ∷ xs) qs x h =
      among_left (back wants (xs ++ qs)).pairs (with_number n (used_of wants (back wants (xs ++ qs)).wanted c)) x (pairs_more xs qs x h)

  pub pairs_apart : (n : ℕ) (x : Output) (qs : List Piece) → Apart n qs → Among (n, x) (back wants qs).pairs → ⊥
  pairs_apart n x [] a h = h
  pairs_apart n x (Own t ∷ qs) a h = pairs_apart n x qs a h
  pairs_apart n x (OfChild m c ∷ qs) a h = elim (among_either (back wants qs).pairs (with_number m (used_of wants (back wants qs).wanted c)) (n, x) h) [
    | inr g ↦ a.0 (numbered_of m n (used_of wants (back wants qs).wanted c) x g).0
    | inl g ↦ pairs_apart n x qs a.1 g
  ]

  pub pairs_past : (n : ℕ) (x : Output) (before qs : List Piece) → Apart n before → Among (n, x) (back wants (before ++ qs)).pairs
      → Among (n, x) (back wants qs).pairs
  pairs_past n x [] qs a h = h
  pairs_past n x (Own t ∷ before) qs a h = pairs_past n x before qs a h
  pairs_past n x (OfChild m c ∷ before) qs a h =
      elim (among_either (back wants (before ++ qs)).pairs (with_number m (used_of wants (back wants (before ++ qs)).wanted c)) (n, x) h) [
        | inr g ↦ absurd (a.0 (numbered_of m n (used_of wants (back wants (before ++ qs)).wanted c) x g).0)
        | inl g ↦ pairs_past n x before qs a.1 g
      ]

  -- what is used of a call stands in the pairs
  pub part_in : (n : ℕ) (c : Call) (before after : List Piece) (x : Output) → has_output c x ≡ true → is_asked wants (back wants after).wanted x ≡ true
      → Among (n, x) (back wants (before ++ (OfChild n c ∷ after))).pairs
  part_in n c before after x h k = pairs_more before (OfChild n c ∷ after) (n, x)
      (among_right (back wants after).pairs (with_number n (used_of wants (back wants after).wanted c)) (n, x)
      (numbered_has n (used_of wants (back wants after).wanted c) x (is_used wants (back wants after).wanted c x h k)))

  -- ---- what is wanted stays wanted up to where it comes from

  pub child_cell : (c : Call) (us : List Output) (w : Wanted) (a : ℕ) → has_output c (Cell a) ≡ false → w.cells a ≡ true → (before_child c us w).cells a ≡ true
  child_cell c [] w a e h = ap (λ b. if b then false else w.cells a) e ∙ h
  child_cell c (u ∷ us) w a e h = by (met_cell c a)
    where
      by : (b : Bool) → (if b then true else if has_output c (Cell a) then false else w.cells a) ≡ true
      by true = refl
      by false = ap (λ b. if b then false else w.cells a) e ∙ h

  pub own_cell : (t : Touch) (w : Wanted) (a : ℕ) → is_some (change_by a t) ≡ false → w.cells a ≡ true → (before_own t w).cells a ≡ true
  own_cell t w a e h = by (looks a t)
    where
      by : (b : Bool) → (if b then true else if is_some (change_by a t) then false else w.cells a) ≡ true
      by true = refl
      by false = ap (λ b. if b then false else w.cells a) e ∙ h

  from_changer : (a n : ℕ) (before qs : List Piece) (was : Option ℕ) → changer_in a was before ≡ Some n → (back wants qs).wanted.cells a ≡ true
      → Among (n, Cell a) (back wants (before ++ qs)).pairs ⊎ ((was ≡ Some n) × ((back wants (before ++ qs)).wanted.cells a ≡ true))
  from_changer a n [] qs was e h = inr (e, h)
  from_changer a n (Own t ∷ before) qs was e h = by (is_some (change_by a t)) refl (from_changer a n before qs (changer_after a was (Own t)) e h)
    where
      by : (b : Bool) → is_some (change_by a t) ≡ b
          → Among (n, Cell a) (back wants (before ++ qs)).pairs ⊎ (((if is_some (change_by a t) then None else was) ≡ Some n)
          × ((back wants (before ++ qs)).wanted.cells a ≡ true))
          → Among (n, Cell a) (back wants (before ++ qs)).pairs ⊎ ((was ≡ Some n) × ((before_own t (back wants (before ++ qs)).wanted).cells a ≡ true))
      by b q (inl g) = inl g
      by true q (inr g) = absurd (none_some (sym (ap (λ b. if b then None else was) q) ∙ g.0))
      by false q (inr g) = inr (sym (ap (λ b. if b then None else was) q) ∙ g.0, own_cell t (back wants (before ++ qs)).wanted a q g.1)
  from_changer a n (OfChild m c ∷ before) qs was e h =
      by (has_output c (Cell a)) refl (from_changer a n before qs (changer_after a was (OfChild m c)) e h)
    where
      w : Wanted
      w = (back wants (before ++ qs)).wanted

      us : List Output
      us = used_of wants w c

      by : (b : Bool) → has_output c (Cell a) ≡ b
          → Among (n, Cell a) (back wants (before ++ qs)).pairs ⊎ (((if has_output c (Cell a) then Some m else was) ≡ Some n) × (w.cells a ≡ true))
          → Among (n, Cell a) ((back wants (before ++ qs)).pairs ++ with_number m us) ⊎ ((was ≡ Some n) × ((before_child c us w).cells a ≡ true))
      by b q (inl g) = inl (among_left (back wants (before ++ qs)).pairs (with_number m us) (n, Cell a) g)
      by true q (inr g) =
          let k : m ≡ n = some_same (sym (ap (λ b. if b then Some m else was) q) ∙ g.0) in
          inl (among_right (back wants (before ++ qs)).pairs (with_number m us) (n, Cell a)
          (subst (λ n. Among (n, Cell a) (with_number m us)) k (numbered_has m us (Cell a) (is_used wants w c (Cell a) q g.1))))
      by false q (inr g) = inr (sym (ap (λ b. if b then Some m else was) q) ∙ g.0, child_cell c us w a q g.1)

  or_keeps : (b x : Bool) → x ≡ true → (if b then true else x) ≡ true
  or_keeps true x h = refl
  or_keeps false x h = h

  input_stays : (xs qs : List Piece) → (back wants qs).wanted.input ≡ true → (back wants (xs ++ qs)).wanted.input ≡ true
  input_stays [] qs h = h
  input_stays (Own t ∷ xs) qs h = or_keeps (asks_input t) (back wants (xs ++ qs)).wanted.input (input_stays xs qs h)
  input_stays (OfChild n c ∷ xs) qs h = by (used_of wants (back wants (xs ++ qs)).wanted c) (input_stays xs qs h)
    where
      by : (us : List Output) → (back wants (xs ++ qs)).wanted.input ≡ true → (before_child c us (back wants (xs ++ qs)).wanted).input ≡ true
      by [] h = h
      by (u ∷ us) h = or_keeps (nat_lt 0 (looked_of c.entry.place c.log)) (back wants (xs ++ qs)).wanted.input h

  heap_stays : (xs qs : List Piece) → (back wants qs).wanted.heap ≡ true → (back wants (xs ++ qs)).wanted.heap ≡ true
  heap_stays [] qs h = h
  heap_stays (Own t ∷ xs) qs h = or_keeps (asks_heap t) (back wants (xs ++ qs)).wanted.heap (heap_stays xs qs h)
  heap_stays (OfChild n c ∷ xs) qs h = by (used_of wants (back wants (xs ++ qs)).wanted c) (heap_stays xs qs h)
    where
      by : (us : List Output) → (back wants (xs ++ qs)).wanted.heap ≡ true → (before_child c us (back wants (xs ++ qs)).wanted).heap ≡ true
      by [] h = h
      by (u ∷ us) h = or_keeps (nat_lt 0 (made_of c.log)) (back wants (xs ++ qs)).wanted.heap h

  -- where something is wanted, its sources are met
  source_met : (before qs : List Piece) (need : Need) (n : ℕ) (x : Output) → IsSource before need n x → has_need (back wants qs).wanted need ≡ true
      → Among (n, x) (back wants (before ++ qs)).pairs
  source_met before qs need n x (Changer a m e) h = elim (from_changer a m before qs None e h) [
    | inl g ↦ g
    | inr g ↦ absurd (none_some g.0)
  ]
  source_met before qs need n x (Taker m c first s k) h =
      subst (λ l. Among (m, Takes) (back wants l).pairs) (sym (append_assoc first (OfChild m c ∷ s.after) qs) ∙ ap (λ l. l ++ qs) (sym s.is))
      (part_in m c first (s.after ++ qs) Takes k
      (or_keeps (wants Takes) (back wants (s.after ++ qs)).wanted.input (input_stays s.after qs h)))
  source_met before qs need n x (Maker m c first s k) h =
      subst (λ l. Among (m, Makes) (back wants l).pairs) (sym (append_assoc first (OfChild m c ∷ s.after) qs) ∙ ap (λ l. l ++ qs) (sym s.is))
      (part_in m c first (s.after ++ qs) Makes k
      (or_keeps (wants Makes) (back wants (s.after ++ qs)).wanted.heap (heap_stays s.after qs h)))

  self_eq : (a : ℕ) → nat_eq a a ≡ true
  self_eq a = grind (arith, nat_tests)

  -- what a touch asks is wanted before it
  own_need : (t : Touch) (need : Need) (w : Wanted) → Asks t need → has_need (before_own t w) need ≡ true
  own_need (touch.Read at v) need w e = subst (λ need. has_need (before_own (touch.Read at v) w) need ≡ true) (sym e)
      (ap (λ b. if b then true else w.cells at) (self_eq at))
  own_need (touch.Has at v) need w e = subst (λ need. has_need (before_own (touch.Has at v) w) need ≡ true) (sym e)
      (ap (λ b. if b then true else w.cells at) (self_eq at))
  own_need (touch.Look at) need w e = subst (λ need. has_need (before_own (touch.Look at) w) need ≡ true) (sym e) refl
  own_need (touch.Take items) need w e = subst (λ need. has_need (before_own (touch.Take items) w) need ≡ true) (sym e) refl
  own_need (touch.Make x y z) need w e = subst (λ need. has_need (before_own (touch.Make x y z) w) need ≡ true) (sym e) refl
  own_need (touch.Write x y) need w e = absurd e
  own_need (touch.Drop x y) need w e = absurd e
  own_need (touch.Give x) need w e = absurd e

  -- what a call met is wanted before it, if something of it is used
  pub child_need : (c : Call) (us : List Output) (x : Output) (need : Need) (w : Wanted) → Among x us → Met c need → has_need (before_child c us w) need ≡ true
  child_need c [] x need w h m = absurd h
  child_need c (u ∷ us) x (TheCell a) w h m = ap (λ b. if b then true else if has_output c (Cell a) then false else w.cells a) m
  child_need c (u ∷ us) x TheInput w h m = ap (λ b. if b then true else w.input) (lt_is 0 (looked_of c.entry.place c.log) m)
  child_need c (u ∷ us) x TheHeap w h m = ap (λ b. if b then true else w.heap) (lt_is 0 (made_of c.log) m)

  end_asked : (x : Output) (w : Wanted) → (x ≡ outputs.Result) ⊎ (x ≡ Way) → is_asked wants w x ≡ true
  end_asked x w (inl e) = subst (λ x. is_asked wants w x ≡ true) (sym e) refl
  end_asked x w (inr e) = subst (λ x. is_asked wants w x ≡ true) (sym e) refl

gathered_asked : (wants : Output → Bool) (o : Output) (w : Wanted) → IsGathered o → wants o ≡ true → is_asked wants w o ≡ true
gathered_asked wants Gives w g e = e
gathered_asked wants Takes w g e = ap (λ b. if b then true else w.input) e
gathered_asked wants Makes w g e = ap (λ b. if b then true else w.heap) e
gathered_asked wants (Cell a) w g e = absurd g
gathered_asked wants outputs.Result w g e = absurd g
gathered_asked wants Way w g e = absurd g

-- each pair that one of the wanted outputs uses is met
pub used_met : (wants : Output → Bool) (k : ℕ) (ps : List Piece) (o : Output) (n : ℕ) (x : Output) → Rising k ps → wants o ≡ true → Used ps o n x
    → Among (n, x) (back wants ps).pairs
used_met wants k ps o n x r h (ByOwn before t need m from s a i) =
    subst (λ l. Among (m, from) (back wants l).pairs) (sym s.is)
    (source_met wants before (Own t ∷ s.after) need m from i (own_need wants t need (back wants s.after).wanted a))
used_met wants k ps o n x r h (ByEnd before m c from s e g) =
    subst (λ l. Among (m, from) (back wants l).pairs) (sym s.is)
    (part_in wants m c before s.after from g (end_asked wants from (back wants s.after).wanted e))
used_met wants k ps o n x r h (AtExit a m from e i) =
    subst (λ l. Among (m, from) (back wants l).pairs) (append-nil ps) (source_met wants ps [] (TheCell a) m from i (ap wants (sym e) ∙ h))
used_met wants k ps o n x r h (Gathered before m c s g q) =
    subst (λ l. Among (m, o) (back wants l).pairs) (sym s.is)
    (part_in wants m c before s.after o q (gathered_asked wants o (back wants s.after).wanted g h))
used_met wants k ps o n x r h (ByChild before m c part need other from u s met i) =
    let apart = split_apart k before m c s.after (subst (Rising k) s.is r) in
    let w = (back wants s.after).wanted in
    let here = pairs_past wants m part before (OfChild m c ∷ s.after) apart.1
    (subst (λ l. Among (m, part) (back wants l).pairs) s.is (used_met wants k ps o m part r h u)) in
    let mine : Among part (used_of wants w c) = elim (among_either (back wants s.after).pairs (with_number m (used_of wants w c)) (m, part) here) [
      | inr g ↦ (numbered_of m m (used_of wants w c) part g).1
      | inl g ↦ absurd (pairs_apart wants m part s.after apart.2 g)
    ] in
    subst (λ l. Among (other, from) (back wants l).pairs) (sym s.is)
    (source_met wants before (OfChild m c ∷ s.after) need other from i (child_need wants c (used_of wants w c) part need w mine met))
