-- The slice by one pass over the calls by rising number, each with one pass over its pieces from the last to the first:
-- a call's wanted outputs are whole when it is reached, since only calls before it add to them.
use Rattle.std.proofs.Common.{if◌then◌else◌, ◌&&◌, ◌++◌, ◌+◌, ◌-◌, ◌<◌, ◌∙◌, ◌∷◌, ◌≡◌, ◌≢◌, ◌≤◌, ◌⊎◌, [], ℕ, Bool, List, None, Option, Some, ap, arith, drop}
use Rattle.std.proofs.Common.{false, inl, inr, length, nat_eq, refl, subst, suc, sym, take, true, zero}
use Rattle.std.{proofs.lemmas.Bool.Decides.eqb_tells, proofs.lemmas.Bool.Decides.nat_tests, proofs.lemmas.Option.slice_get_within, specs.List.slice_get}
use Rattle.core_program.{proofs.OutcomesCompose.none_some, specs.Run.Call, specs.Run.Marked, specs.State.State}
use Rattle.core_program.specs.Run as meaning
use Rattle.output_slice.proofs.{ActsAlike.false_true, BackwardIsWhole.Rising, BackwardIsWhole.cut_rises, BackwardIsWhole.used_met}
use Rattle.output_slice.proofs.AmongLists.{Among, among_contains, among_either, among_left, among_right, contains_among}
use Rattle.output_slice.proofs.UsedBackward.{numbered_of, only_is, only_self, pairs_used}
use Rattle.output_slice.specs.{Pieces.OfChild, Pieces.Own, Pieces.Piece, Pieces.pieces_of, SliceLists.IsSliceList, declared.outputs.Output.Output}
use Rattle.output_slice.specs.Backward.{back, is_pair, more_at, only, pass, slice_list, some_at, used_of, wants_at, with_call, with_number}
use Rattle.output_slice.specs.Outputs.{First, Further, InSlice, Used}

and_both : (a b : Bool) → (a && b) ≡ true → (a ≡ true) × (b ≡ true)
and_both true b e = (refl, e)
and_both false b e = absurd (false_true e)

wanted_among : (n : ℕ) (pairs : List (ℕ × Output)) (x : Output) → wants_at n pairs x ≡ true → Among (n, x) pairs
wanted_among n [] x e = absurd (false_true e)
wanted_among n (y ∷ ys) x e = by (is_pair n x y) refl (wanted_among n ys x) e
  where
    by : (b : Bool) → is_pair n x y ≡ b → (wants_at n ys x ≡ true → Among (n, x) ys) → (if b then true else wants_at n ys x) ≡ true → Among (n, x) (y ∷ ys)
    by true q k e =
        let p = and_both (nat_eq n y.0) (only x y.1) q in
        let a : n ≡ y.0 = (let f = p.0 in grind (arith, nat_tests)) in
        inl (λ i. (sym a i, sym (only_is x y.1 p.1) i))
    by false q k e = inr (k e)

self_eq : (n : ℕ) → nat_eq n n ≡ true
self_eq n = grind (arith, nat_tests)

among_wanted : (n : ℕ) (pairs : List (ℕ × Output)) (x : Output) → Among (n, x) pairs → wants_at n pairs x ≡ true
among_wanted n [] x h = absurd h
among_wanted n (y ∷ ys) x (inl q) = ap (λ (y : ℕ × Output). if is_pair n x y then true else wants_at n ys x) q
    ∙ ap (λ b. if b && only x x then true else wants_at n ys x) (self_eq n) ∙ ap (λ b. if b then true else wants_at n ys x) (only_self x)
among_wanted n (y ∷ ys) x (inr h) = by (is_pair n x y) (among_wanted n ys x h)
  where
    by : (b : Bool) → wants_at n ys x ≡ true → (if b then true else wants_at n ys x) ≡ true
    by true e = refl
    by false e = e

pub some_among : (n : ℕ) (pairs : List (ℕ × Output)) → some_at n pairs ≡ true → (x : Output) × Among (n, x) pairs
some_among n [] e = absurd (false_true e)
some_among n (y ∷ ys) e = by (nat_eq n y.0) refl (some_among n ys) e
  where
    by : (b : Bool) → nat_eq n y.0 ≡ b → (some_at n ys ≡ true → (x : Output) × Among (n, x) ys) → (if b then true else some_at n ys) ≡ true
        → (x : Output) × Among (n, x) (y ∷ ys)
    by true q k e = let a : n ≡ y.0 = grind (arith, nat_tests) in (y.1, inl (λ i. (sym a i, y.1)))
    by false q k e = let r = k e in (r.0, inr r.1)

pub among_some : (n : ℕ) (pairs : List (ℕ × Output)) (x : Output) → Among (n, x) pairs → some_at n pairs ≡ true
among_some n [] x h = absurd h
among_some n (y ∷ ys) x (inl q) = ap (λ (y : ℕ × Output). if nat_eq n y.0 then true else some_at n ys) q
    ∙ ap (λ b. if b then true else some_at n ys) (self_eq n)
among_some n (y ∷ ys) x (inr h) = by (nat_eq n y.0) (among_some n ys x h)
  where
    by : (b : Bool) → some_at n ys ≡ true → (if b then true else some_at n ys) ≡ true
    by true e = refl
    by false e = e

-- the numbers of the pairs of a pass over pieces are those of their calls
rising_pairs : (wants : Output → Bool) (k : ℕ) (ps : List Piece) (n : ℕ) (x : Output) → Rising k ps → Among (n, x) (back wants ps).pairs → k ≤ n
rising_pairs wants k [] n x r h = absurd h
rising_pairs wants k (Own t ∷ ps) n x r h = rising_pairs wants k ps n x r h
rising_pairs wants k (OfChild m c ∷ ps) n x r h = elim (among_either (back wants ps).pairs (with_number m (used_of wants (back wants ps).wanted c)) (n, x) h) [
  | inr g ↦ omega (arith, r.0, (numbered_of m n (used_of wants (back wants ps).wanted c) x g).0)
  | inl g ↦ omega (arith, r.0, rising_pairs wants (suc m) ps n x r.1 g)
]

module _ (r : meaning.Result State Call) where
  rises : (k : ℕ) (e : Marked Call) → Rising (k + 1) (pieces_of r k e)
  rises k e = cut_rises e.mark (k + 1) 0 e.event.log (take e.event.below (drop (k + 1) r.events))

  pub more_later : (n : ℕ) (pairs : List (ℕ × Output)) (e : Option (Marked Call)) (m : ℕ) (x : Output) → Among (m, x) (more_at r n pairs e) → n < m
  more_later n pairs None m x h = absurd h
  more_later n pairs (Some e) m x h = omega (arith, rising_pairs (wants_at n pairs) (n + 1) (pieces_of r n e) m x (rises n e) h)

  -- a call adds pairs of later calls alone
  with_call_later : (n : ℕ) (pairs : List (ℕ × Output)) (m : ℕ) (x : Output) → Among (m, x) (with_call r n pairs) → Among (m, x) pairs ⊎ (n < m)
  with_call_later n pairs m x h = by (some_at n pairs) h
    where
      by : (b : Bool) → Among (m, x) (if b then pairs ++ more_at r n pairs (slice_get r.events n) else pairs) → Among (m, x) pairs ⊎ (n < m)
      by true h = elim (among_either pairs (more_at r n pairs (slice_get r.events n)) (m, x) h) [
        | inl g ↦ inl g
        | inr g ↦ inr (more_later n pairs (slice_get r.events n) m x g)
      ]
      by false h = inl h

  pass_later : (calls n : ℕ) (pairs : List (ℕ × Output)) (m : ℕ) (x : Output) → Among (m, x) (pass r calls n pairs) → Among (m, x) pairs ⊎ (n < m)
  pass_later zero n pairs m x h = inl h
  pass_later (suc calls) n pairs m x h = elim (pass_later calls (suc n) (with_call r n pairs) m x h) [
    | inl g ↦ with_call_later n pairs m x g
    | inr g ↦ inr (omega (arith, g))
  ]

  with_call_keeps : (n : ℕ) (pairs : List (ℕ × Output)) (y : ℕ × Output) → Among y pairs → Among y (with_call r n pairs)
  with_call_keeps n pairs y h = by (some_at n pairs)
    where
      by : (b : Bool) → Among y (if b then pairs ++ more_at r n pairs (slice_get r.events n) else pairs)
      by true = among_left pairs (more_at r n pairs (slice_get r.events n)) y h
      by false = h

  pass_keeps : (calls n : ℕ) (pairs : List (ℕ × Output)) (y : ℕ × Output) → Among y pairs → Among y (pass r calls n pairs)
  pass_keeps zero n pairs y h = h
  pass_keeps (suc calls) n pairs y h = pass_keeps calls (suc n) (with_call r n pairs) y (with_call_keeps n pairs y h)

  -- ---- no pair is missed

  call_closes : (n : ℕ) (pairs : List (ℕ × Output)) (e : Marked Call) (part : Output) (m : ℕ) (x : Output) → slice_get r.events n ≡ Some e
      → Among (n, part) pairs → Used (pieces_of r n e) part m x → Among (m, x) (with_call r n pairs)
  call_closes n pairs e part m x q h u =
      subst (Among (m, x)) (ap (λ b. if b then pairs ++ more_at r n pairs (slice_get r.events n) else pairs) (sym (among_some n pairs part h)))
      (among_right pairs (more_at r n pairs (slice_get r.events n)) (m, x)
      (subst (λ y. Among (m, x) (more_at r n pairs y)) (sym q)
      (used_met (wants_at n pairs) (n + 1) (pieces_of r n e) part m x (rises n e) (among_wanted n pairs part h) u)))

  pass_closes : (calls n : ℕ) (pairs : List (ℕ × Output)) (k : ℕ) (e : Marked Call) (part : Output) (m : ℕ) (x : Output) → n ≤ k → k < n + calls
      → slice_get r.events k ≡ Some e → Among (k, part) (pass r calls n pairs) → Used (pieces_of r k e) part m x → Among (m, x) (pass r calls n pairs)
  pass_closes zero n pairs k e part m x from to q h u = absurd (omega (arith, from, to))
  pass_closes (suc calls) n pairs k e part m x from to q h u =
      by (λ l. pass_closes calls (suc n) (with_call r n pairs) k e part m x l (omega (arith, to)) q h u)
      (elim (eqb_tells n k) [ inl s ↦ inl s.1 | inr s ↦ inr s.1 ])
    where
      by : (n < k → Among (m, x) (pass r (suc calls) n pairs)) → (n ≡ k) ⊎ (n ≢ k)
          → Among (m, x) (pass r (suc calls) n pairs)
      by go (inl s) =
          let there : Among (n, part) (pass r (suc calls) n pairs) = subst (λ k. Among (k, part) (pass r (suc calls) n pairs)) (sym s) h in
          let before : Among (n, part) pairs = elim (pass_later (suc calls) n pairs n part there) [ inl g ↦ g | inr g ↦ absurd (omega (arith, g)) ] in
          pass_keeps calls (suc n) (with_call r n pairs) (m, x)
          (call_closes n pairs e part m x (ap (slice_get r.events) s ∙ q) before (subst (λ k. Used (pieces_of r k e) part m x) (sym s) u))
      by go (inr s) = go (omega (arith, from, s))

  slice_from : (call : ℕ) (o : Output) (n : ℕ) (x : Output) → Among (n, x) (slice_list r call o) → call ≤ n
  slice_from call o n x h = elim (pass_later (length r.events - call) call ((call, o) ∷ []) n x h) [
    | inl (inl g) ↦ omega (arith, ap (λ (y : ℕ × Output). y.0) g)
    | inl (inr g) ↦ absurd g
    | inr g ↦ omega (arith, g)
  ]

  -- each pair of the slice is listed
  pub slice_listed : (call : ℕ) (o : Output) (n : ℕ) (x : Output) → InSlice r call o n x → Among (n, x) (slice_list r call o)
  slice_listed call o n x First = pass_keeps (length r.events - call) call ((call, o) ∷ []) (call, o) (inl refl)
  slice_listed call o n x (Further number e part other from h q u) =
      let g = slice_listed call o number part h in
      let l = slice_get_within r.events number e q in
      pass_closes (length r.events - call) call ((call, o) ∷ []) number e part other from (slice_from call o number part g)
      (omega (arith, l, slice_from call o number part g)) q g u

  -- ---- and no other

  with_call_sound : (call : ℕ) (o : Output) (n : ℕ) (pairs : List (ℕ × Output)) → ((m : ℕ) (x : Output) → Among (m, x) pairs → InSlice r call o m x)
      → (m : ℕ) (x : Output) → Among (m, x) (with_call r n pairs) → InSlice r call o m x
  with_call_sound call o n pairs f m x h = by (some_at n pairs) refl h
    where
      of_entry : ((y : Output) × Among (n, y) pairs) → (e : Option (Marked Call)) → slice_get r.events n ≡ e → Among (m, x) (more_at r n pairs e)
          → InSlice r call o m x
      of_entry s None q g = absurd g
      of_entry s (Some e) q g =
          let u = pairs_used (pieces_of r n e) (wants_at n pairs) (s.0, among_wanted n pairs s.0 s.1) m x g in
          Further n e u.by m x (f n u.by (wanted_among n pairs u.by u.wanted)) q u.used

      by : (b : Bool) → some_at n pairs ≡ b → Among (m, x) (if b then pairs ++ more_at r n pairs (slice_get r.events n) else pairs) → InSlice r call o m x
      by true q h = elim (among_either pairs (more_at r n pairs (slice_get r.events n)) (m, x) h) [
        | inl g ↦ f m x g
        | inr g ↦ of_entry (some_among n pairs q) (slice_get r.events n) refl g
      ]
      by false q h = f m x h

  pass_sound : (call : ℕ) (o : Output) (calls n : ℕ) (pairs : List (ℕ × Output)) → ((m : ℕ) (x : Output) → Among (m, x) pairs → InSlice r call o m x)
      → (m : ℕ) (x : Output) → Among (m, x) (pass r calls n pairs) → InSlice r call o m x
  pass_sound call o zero n pairs f m x h = f m x h
  pass_sound call o (suc calls) n pairs f m x h =
      pass_sound call o calls (suc n) (with_call r n pairs) (with_call_sound call o n pairs f) m x h

  pub listed_slice : (call : ℕ) (o : Output) (n : ℕ) (x : Output) → Among (n, x) (slice_list r call o) → InSlice r call o n x
  listed_slice call o n x h = pass_sound call o (length r.events - call) call ((call, o) ∷ []) start n x h
    where
      start : (m : ℕ) (x : Output) → Among {X = ℕ × Output} (m, x) ((call, o) ∷ []) → InSlice r call o m x
      start m x (inl q) = subst (λ (y : ℕ × Output). InSlice r call o y.0 y.1) q First
      start m x (inr g) = absurd g

-- ---- the list

module _ (r : meaning.Result State Call) where
  append_first : (xs ys : List (ℕ × Output)) (y : ℕ × Output) → slice_get xs 0 ≡ Some y → slice_get (xs ++ ys) 0 ≡ Some y
  append_first [] ys y e = absurd (none_some e)
  append_first (x ∷ xs) ys y e = e

  call_first : (n : ℕ) (pairs : List (ℕ × Output)) (y : ℕ × Output) → slice_get pairs 0 ≡ Some y → slice_get (with_call r n pairs) 0 ≡ Some y
  call_first n pairs y e = by (some_at n pairs)
    where
      by : (b : Bool) → slice_get (if b then pairs ++ more_at r n pairs (slice_get r.events n) else pairs) 0 ≡ Some y
      by true = append_first pairs (more_at r n pairs (slice_get r.events n)) y e
      by false = e

  pass_first : (calls n : ℕ) (pairs : List (ℕ × Output)) (y : ℕ × Output) → slice_get pairs 0 ≡ Some y → slice_get (pass r calls n pairs) 0 ≡ Some y
  pass_first zero n pairs y e = e
  pass_first (suc calls) n pairs y e = pass_first calls (suc n) (with_call r n pairs) y (call_first n pairs y e)

  pub slice_list_is : (call : ℕ) (o : Output) → IsSliceList r call o (slice_list r call o)
  slice_list_is call o = record {
    first = pass_first (length r.events - call) call ((call, o) ∷ []) (call, o) refl;
    whole = λ n x h. among_contains (slice_list r call o) (n, x) (slice_listed r call o n x h);
    no_more = λ n x h. listed_slice r call o n x (contains_among (slice_list r call o) (n, x) h.0 h.1 h.2);
  }

  pub slice_is_list : (call : ℕ) (o : Output) → (pairs : List (ℕ × Output)) × IsSliceList r call o pairs
  slice_is_list call o = (slice_list r call o, slice_list_is call o)
