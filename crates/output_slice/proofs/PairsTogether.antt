-- In a slice the pairs of each call stand together: a call's parent adds them all at once, and each call has one parent.
use Rattle.std.proofs.Common.{if◌then◌else◌, ◌++◌, ◌+◌, ◌∙◌, ◌∷◌, ◌≡◌, ◌≤◌, [], ℕ, Bool, List, None, Option, Some, ap, append-nil, append_assoc, arith, drop}
use Rattle.std.proofs.Common.{false, inl, inr, is_some, length, refl, subst, suc, sym, take, true, zero}
use Rattle.std.{proofs.lemmas.Bool.Decides.eqb_tells, specs.List.slice_get}
use Rattle.core_program.proofs.{NestedCallsAreIntervals.Forest, OutcomesCompose.some_same}
use Rattle.core_program.specs.{Numbering.belows, Run.Call, Run.Marked, State.State}
use Rattle.core_program.specs.Run as meaning
use Rattle.output_slice.proofs.{AmongLists.Among, FirstPairs.first_after, FirstPairs.first_some, FirstPairs.none_append, FirstPairs.none_of_other}
use Rattle.output_slice.proofs.{PairsOnce.OnceFrom, PairsOnce.call_once, PairsOnce.more_is, SliceByOnePass.more_later, SliceByOnePass.some_among}
use Rattle.output_slice.proofs.BackwardIsWhole.{Rising, cut_rises, pairs_apart, rising_apart}
use Rattle.output_slice.specs.{Firsts.IsTogether, Firsts.first_at, Pieces.OfChild, Pieces.Own, Pieces.Piece, Pieces.pieces_of, declared.outputs.Output.Output}
use Rattle.output_slice.specs.Backward.{back, more_at, pass, some_at, used_of, wants_at, with_call, with_number}

abbrev PairList : Type 0
PairList = List (ℕ × Output)

abbrev pub Together : ℕ → PairList → Type 0
Together n pairs = (place : ℕ) × IsTogether pairs n place

together_none : (n : ℕ) (pairs : PairList) → some_at n pairs ≡ false → Together n pairs
together_none n pairs e = (
  0,
  record {
    before = [];
    outputs = [];
    after = pairs;
    is = refl;
    at = refl;
    none_before = refl;
    none_after = e;
  },
)

together_before : (n : ℕ) (xs ys : PairList) → Together n xs → some_at n ys ≡ false → Together n (xs ++ ys)
together_before n xs ys h e = let t = h.1 in (
  h.0,
  record {
    before = t.before;
    outputs = t.outputs;
    after = t.after ++ ys;
    is = ap (λ l. l ++ ys) t.is ∙ append_assoc t.before (with_number n t.outputs ++ t.after) ys
        ∙ ap (λ l. t.before ++ l) (append_assoc (with_number n t.outputs) t.after ys);
    at = t.at;
    none_before = t.none_before;
    none_after = none_append n t.after ys t.none_after e;
  },
)

together_after : (n : ℕ) (xs ys : PairList) → some_at n xs ≡ false → Together n ys → Together n (xs ++ ys)
together_after n xs ys e h = let t = h.1 in (
  length (xs ++ t.before),
  record {
    before = xs ++ t.before;
    outputs = t.outputs;
    after = t.after;
    is = ap (λ l. xs ++ l) t.is ∙ sym (append_assoc xs t.before (with_number n t.outputs ++ t.after));
    at = refl;
    none_before = none_append n xs t.before e t.none_before;
    none_after = t.none_after;
  },
)

together_numbered : (n m : ℕ) (us : List Output) → Together n (with_number m us)
together_numbered n m us = elim (eqb_tells n m) [
  | inl same ↦ subst (λ k. Together n (with_number k us)) same.1 (
    0,
    record {
      before = [];
      outputs = us;
      after = [];
      is = sym (append-nil (with_number n us));
      at = refl;
      none_before = refl;
      none_after = refl;
    },
  )
  | inr other ↦ together_none n (with_number m us) (none_of_other n m us other.1)
]

-- what is among no pairs has none
none_some_at : (n : ℕ) (xs : PairList) → ((x : Output) → Among (n, x) xs → ⊥) → some_at n xs ≡ false
none_some_at n xs out = by (some_at n xs) refl
  where
    by : (b : Bool) → some_at n xs ≡ b → some_at n xs ≡ false
    by true e = let s = some_among n xs e in absurd (out s.0 s.1)
    by false e = e

-- ---- the pieces of a call

together_back : (wants : Output → Bool) (k : ℕ) (ps : List Piece) (n : ℕ) → Rising k ps → Together n (back wants ps).pairs
together_back wants k [] n r = together_none n [] refl
together_back wants k (Own t ∷ ps) n r = together_back wants k ps n r
together_back wants k (OfChild m c ∷ ps) n r =
    let us = used_of wants (back wants ps).wanted c in
    elim (eqb_tells n m) [
      | inl same ↦ together_after n (back wants ps).pairs (with_number m us)
          (none_some_at n (back wants ps).pairs (λ x a. pairs_apart wants n x ps (rising_apart (suc m) n ps (omega (arith, same.1)) r.1) a))
          (together_numbered n m us)
      | inr other ↦ together_before n (back wants ps).pairs (with_number m us) (together_back wants (suc m) ps n r.1) (none_of_other n m us other.1)
    ]

-- ---- the calls

module _ (r : meaning.Result State Call) (forest : Forest (belows r.events)) (call : ℕ) where
  together_more : (n : ℕ) (pairs : PairList) (e : Option (Marked Call)) (m : ℕ) → Together m (more_at r n pairs e)
  together_more n pairs None m = together_none m [] refl
  together_more n pairs (Some e) m = together_back (wants_at n pairs) (n + 1) (pieces_of r n e) m
      (cut_rises e.mark (n + 1) 0 e.event.log (take e.event.below (drop (n + 1) r.events)))

  together_call : (n : ℕ) (pairs : PairList) → call ≤ n → OnceFrom r forest call n pairs → ((m : ℕ) → Together m pairs) → (m : ℕ)
      → Together m (with_call r n pairs)
  together_call n pairs l h t m = by (some_at n pairs)
    where
      more : PairList
      more = more_at r n pairs (slice_get r.events n)

      -- a call has pairs before, or gets some now
      one_of : (b : Bool) → some_at m more ≡ b → Together m (pairs ++ more)
      one_of false e = together_before m pairs more (t m) e
      one_of true e =
          let s = some_among m more e in
          let p = more_is r forest call n pairs (slice_get r.events n) refl m s.0 s.1 in
          together_after m pairs more (none_some_at m pairs (λ x a. (elim (h.parented m x a) [
            | inl e ↦ omega (arith, more_later r n pairs (slice_get r.events n) m s.0 s.1, e, l)
            | inr g ↦ omega (arith, g.2, some_same (sym g.1 ∙ p))
          ]))) (together_more n pairs (slice_get r.events n) m)

      by : (b : Bool) → Together m (if b then pairs ++ more else pairs)
      by true = one_of (some_at m more) refl
      by false = t m

  -- the same through the calls
  pub record KeptTogether (n : ℕ) (pairs : PairList) : Type 0 where
    pub once : OnceFrom r forest call n pairs
    pub together : (m : ℕ) → Together m pairs

  pub more_together : (n : ℕ) (pairs : PairList) → call ≤ n → KeptTogether n pairs → KeptTogether (suc n) (with_call r n pairs)
  more_together n pairs l h = record { once = call_once r forest call n pairs l h.once; together = together_call n pairs l h.once h.together }

  pub first_together : (o : Output) → KeptTogether call ((call, o) ∷ [])
  first_together o = record {
    once = record {
      once = ((λ a. a), tt);
      parented = λ m x a. elim a [ inl e ↦ inl (sym (ap (λ (y : ℕ × Output). y.0) e)) | inr g ↦ absurd g ];
    };
    together = λ m. together_numbered m call (o ∷ []);
  }

-- ---- the place

-- where the pairs stand together, they do so from the first on
pub together_first : (n : ℕ) (pairs : PairList) → Together n pairs → (place : ℕ) → first_at n pairs ≡ Some place → IsTogether pairs n place
together_first n pairs h place e = by h.1.outputs refl
  where
    by : (us : List Output) → h.1.outputs ≡ us → IsTogether pairs n place
    by [] q =
        let none : some_at n pairs ≡ false = ap (some_at n) (h.1.is ∙ ap (λ l. h.1.before ++ (with_number n l ++ h.1.after)) q)
        ∙ none_append n h.1.before h.1.after h.1.none_before h.1.none_after in
        absurd (let f = sym (ap is_some e) ∙ first_some n pairs ∙ none in let z : ⊥ = cc in z)
    by (u ∷ us) q =
        let first : first_at n pairs ≡ Some (length h.1.before) =
        ap (first_at n) (h.1.is ∙ ap (λ l. h.1.before ++ (with_number n l ++ h.1.after)) q)
        ∙ first_after n u h.1.before (with_number n us ++ h.1.after) h.1.none_before in
        subst (IsTogether pairs n) (sym h.1.at ∙ some_same (sym first ∙ e)) h.1

-- ---- a pass, call by call

pub pass_more : (r : meaning.Result State Call) (calls n : ℕ) (pairs : PairList) → pass r (calls + 1) n pairs ≡ with_call r (n + calls) (pass r calls n pairs)
pass_more r zero n pairs = ap (λ k. with_call r k pairs) (let e : n ≡ n + 0 = omega arith in e)
pass_more r (suc calls) n pairs = ap (λ k. pass r k n pairs) (let e : suc calls + 1 ≡ suc (calls + 1) = omega arith in e)
    ∙ pass_more r calls (suc n) (with_call r n pairs)
    ∙ ap (λ k. with_call r k (pass r calls (suc n) (with_call r n pairs))) (let e : suc n + calls ≡ n + suc calls = omega arith in e)
