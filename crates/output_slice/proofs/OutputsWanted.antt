-- Which outputs of a call are wanted, by the pairs of the slice so far.
use Rattle.std.proofs.Common.{if◌then◌else◌, ◌&&◌, ◌++◌, ◌+◌, ◌-◌, ◌<◌, ◌==◌, ◌∙◌, ◌∷◌, ◌≡◌, ◌≤◌, [], ℕ, Bool, List, None, Option, Some, ap, arith, drop, false}
use Rattle.std.proofs.Common.{inl, inr, length, length-append, nat_le, refl, slice_range, suc, sym, take, true, zero}
use Rattle.std.{proofs.lemmas.Bool.Decides.eqb_tells, proofs.lemmas.Bool.Decides.nat_tests, specs.List.slice_get}
use Rattle.cell_value.specs.Effects.{heap_end}
use Rattle.output_slice.specs.{CellSets.has_cell, Firsts.IsTogether, Firsts.output_of}
use Rattle.output_slice.specs.Backward.{is_pair, only, some_at, wants_at, with_number}
use Rattle.output_slice.specs.Needed.{AreAsked, AreGathered, AreWanted, nothing_wanted, wants_alone, with_output}
use Rattle.output_slice.specs.declared.{needs.Needs.Needs, outputs.Output.Output, used.Gathered.Gathered}
use Rattle.output_slice.specs.declared.outputs.Output.TheVariants.{Cell, Gives, Makes, Result, Takes, Way}

-- ---- one output more

kept : (x : Bool) → x ≡ (if x then true else false)
kept true = refl
kept false = refl

now : (x : Bool) → true ≡ (if x then true else true)
now true = refl
now false = refl

pub asked_cell : (wants : Output → Bool) (addr : ℕ) (g : Gathered) (old new : Needs)
    → ((a : ℕ) → a < heap_end → has_cell new.cells a ≡ (if addr == a then true else has_cell old.cells a)) → new.input ≡ old.input
    → new.heap ≡ old.heap → AreAsked wants g old → AreAsked (with_output wants (Cell addr)) g new
asked_cell wants addr g old new e i j h = record {
  outputs = record {
    gives = h.outputs.gives ∙ kept (wants Gives);
    takes = h.outputs.takes ∙ kept (wants Takes);
    makes = h.outputs.makes ∙ kept (wants Makes);
  };
  cells = record {
    cells = λ a l. e a l ∙ ap (λ b. if addr == a then true else b) (h.cells.cells a l) ∙ turned (wants (Cell a)) a;
    input = i ∙ h.cells.input;
    heap = j ∙ h.cells.heap;
  };
}
  where
    swapped : (b x : Bool) → (if b then true else x) ≡ (if x then true else b)
    swapped true true = refl
    swapped true false = refl
    swapped false true = refl
    swapped false false = refl

    turned : (x : Bool) (a : ℕ) → (if addr == a then true else x) ≡ (if x then true else (a == addr))
    turned x a = swapped (addr == a) x
        ∙ ap (λ b. if x then true else b) (elim (eqb_tells addr a) [
          | inl s ↦ s.0 ∙ sym (let q = s.1 in let z : (a == addr) ≡ true = grind (arith, nat_tests) in z)
          | inr s ↦ s.0 ∙ sym (let q = s.1 in let z : (a == addr) ≡ false = grind (arith, nat_tests) in z)
        ])

-- the others change no cell
others_asked : (wants : Output → Bool) (x : Output) (needs : Needs) → ((a : ℕ) → only (Cell a) x ≡ false) → AreWanted needs (wants_alone wants)
    → AreWanted needs (wants_alone (with_output wants x))
others_asked wants x needs out h = record {
  cells = λ a l. h.cells a l ∙ kept (wants (Cell a)) ∙ ap (λ b. if wants (Cell a) then true else b) (sym (out a));
  input = h.input;
  heap = h.heap;
}

module _ (wants : Output → Bool) (g : Gathered) (needs : Needs) (h : AreAsked wants g needs) where
  pub asked_gives : AreAsked (with_output wants Gives) (record g { gives = true }) needs
  asked_gives = record {
    outputs = record { gives = now (wants Gives); takes = h.outputs.takes ∙ kept (wants Takes); makes = h.outputs.makes ∙ kept (wants Makes) };
    cells = others_asked wants Gives needs (λ a. refl) h.cells;
  }

  pub asked_takes : AreAsked (with_output wants Takes) (record g { takes = true }) needs
  asked_takes = record {
    outputs = record { gives = h.outputs.gives ∙ kept (wants Gives); takes = now (wants Takes); makes = h.outputs.makes ∙ kept (wants Makes) };
    cells = others_asked wants Takes needs (λ a. refl) h.cells;
  }

  pub asked_makes : AreAsked (with_output wants Makes) (record g { makes = true }) needs
  asked_makes = record {
    outputs = record { gives = h.outputs.gives ∙ kept (wants Gives); takes = h.outputs.takes ∙ kept (wants Takes); makes = now (wants Makes) };
    cells = others_asked wants Makes needs (λ a. refl) h.cells;
  }

  same_outputs : (x : Output) → only Gives x ≡ false → only Takes x ≡ false → only Makes x ≡ false → AreGathered (with_output wants x) g
  same_outputs x a b c = record {
    gives = h.outputs.gives ∙ kept (wants Gives) ∙ ap (λ b. if wants Gives then true else b) (sym a);
    takes = h.outputs.takes ∙ kept (wants Takes) ∙ ap (λ b. if wants Takes then true else b) (sym b);
    makes = h.outputs.makes ∙ kept (wants Makes) ∙ ap (λ b. if wants Makes then true else b) (sym c);
  }

  pub asked_result : AreAsked (with_output wants Result) g needs
  asked_result = record { outputs = same_outputs Result refl refl refl; cells = others_asked wants Result needs (λ a. refl) h.cells }

  pub asked_way : AreAsked (with_output wants Way) g needs
  asked_way = record { outputs = same_outputs Way refl refl refl; cells = others_asked wants Way needs (λ a. refl) h.cells }

-- what asks for the same outputs
pub asked_same : (f k : Output → Bool) (g : Gathered) (needs : Needs) → ((o : Output) → f o ≡ k o) → AreAsked f g needs → AreAsked k g needs
asked_same f k g needs e h = record {
  outputs = record { gives = h.outputs.gives ∙ e Gives; takes = h.outputs.takes ∙ e Takes; makes = h.outputs.makes ∙ e Makes };
  cells = record { cells = λ a l. h.cells.cells a l ∙ e (Cell a); input = h.cells.input; heap = h.cells.heap };
}

-- ---- among pairs

wants_append : (n : ℕ) (xs ys : List (ℕ × Output)) (o : Output) → wants_at n (xs ++ ys) o ≡ (if wants_at n xs o then true else wants_at n ys o)
wants_append n [] ys o = refl
wants_append n (x ∷ xs) ys o = by (is_pair n o x) (wants_append n xs ys o)
  where
    by : (b : Bool) → wants_at n (xs ++ ys) o ≡ (if wants_at n xs o then true else wants_at n ys o)
        → (if b then true else wants_at n (xs ++ ys) o) ≡ (if (if b then true else wants_at n xs o) then true else wants_at n ys o)
    by true e = refl
    by false e = e

self_eq : (n : ℕ) → (n == n) ≡ true
self_eq n = grind (arith, nat_tests)

-- one pair of the call more
pub wants_more : (n : ℕ) (xs : List (ℕ × Output)) (x o : Output) → with_output (wants_at n xs) x o ≡ wants_at n (xs ++ (n, x) ∷ []) o
wants_more n xs x o = ap (λ b. if wants_at n xs o then true else b) (plain (only o x) ∙ ap (λ b. if b && only o x then true else false) (sym (self_eq n)))
    ∙ sym (wants_append n xs ((n, x) ∷ []) o)
  where
    plain : (b : Bool) → b ≡ (if b then true else false)
    plain true = refl
    plain false = refl

wants_none : (n : ℕ) (xs : List (ℕ × Output)) (o : Output) → some_at n xs ≡ false → wants_at n xs o ≡ false
wants_none n [] o e = refl
wants_none n (x ∷ xs) o e = by (n == x.0) e (wants_none n xs o)
  where
    by : (b : Bool) → (if b then true else some_at n xs) ≡ false → (some_at n xs ≡ false → wants_at n xs o ≡ false)
        → (if b && only o x.1 then true else wants_at n xs o) ≡ false
    by true e k = absurd (let z : ⊥ = cc in z)
    by false e k = k e

-- ---- a pass over the pairs of a call

-- the output that is found at a place is that of a pair of the call there
pub pair_found : (n : ℕ) (xs : List (ℕ × Output)) (i : ℕ) (x : Output) → output_of n (slice_get xs i) ≡ Some x → slice_get xs i ≡ Some (n, x)
pair_found n xs i x e = by (slice_get xs i) e
  where
    at : (y : ℕ × Output) (b : Bool) → (n == y.0) ≡ b → (if b then Some y.1 else None) ≡ Some x → Some y ≡ Some (n, x)
    at y true q e = let same : y.1 ≡ x = cc in let num : y.0 ≡ n = grind (arith, nat_tests) in λ i. Some (num i, same i)
    at y false q e = absurd (let z : ⊥ = cc in z)

    by : (o : Option (ℕ × Output)) → output_of n o ≡ Some x → o ≡ Some (n, x)
    by None e = absurd (let z : ⊥ = cc in z)
    by (Some y) e = at y (n == y.0) refl e

-- where none is found, the pair there is none of the call
no_pair : (n : ℕ) (us : List Output) (ys : List (ℕ × Output)) (i : ℕ) → i < length us → output_of n (slice_get (with_number n us ++ ys) i) ≡ None → ⊥
no_pair n [] ys i h e = omega (arith, h)
no_pair n (u ∷ us) ys zero h e = let f = sym (ap (λ b. if b then Some u else None) (self_eq n)) ∙ e in let z : ⊥ = cc in z
no_pair n (u ∷ us) ys (suc i) h e = no_pair n us ys i (omega (arith, h)) e

none_taken : (n : ℕ) (k : ℕ) (xs : List (ℕ × Output)) → some_at n xs ≡ false → some_at n (take k xs) ≡ false
none_taken n zero xs e = refl
none_taken n (suc k) [] e = refl
none_taken n (suc k) (x ∷ xs) e = by (n == x.0) e (none_taken n k xs)
  where
    by : (b : Bool) → (if b then true else some_at n xs) ≡ false → (some_at n xs ≡ false → some_at n (take k xs) ≡ false)
        → (if b then true else some_at n (take k xs)) ≡ false
    by true e f = e
    by false e f = f e

-- the first of these and those that are left out: enough of them want what all do
enough : (n k : ℕ) (us : List Output) (ys : List (ℕ × Output)) (o : Output) → length us ≤ k → some_at n ys ≡ false
    → wants_at n (take k (with_number n us ++ ys)) o ≡ wants_at n (with_number n us ++ ys) o
enough n k [] ys o h e = wants_none n (take k ys) o (none_taken n k ys e) ∙ sym (wants_none n ys o e)
enough n zero (u ∷ us) ys o h e = absurd (omega (arith, h))
enough n (suc k) (u ∷ us) ys o h e = ap (λ b. if is_pair n o (n, u) then true else b) (enough n k us ys o (omega (arith, h)) e)

dropped : {X : Type 0} (xs ys : List X) → drop (length xs) (xs ++ ys) ≡ ys
dropped [] ys = refl
dropped (x ∷ xs) ys = dropped xs ys

get_after : {X : Type 0} (xs ys : List X) (i : ℕ) → slice_get (xs ++ ys) (length xs + i) ≡ slice_get ys i
get_after [] ys i = ap (slice_get ys) (let e : 0 + i ≡ i = omega arith in e)
get_after (x ∷ xs) ys i = ap (slice_get (x ∷ (xs ++ ys))) (let e : suc (length xs) + i ≡ suc (length xs + i) = omega arith in e) ∙ get_after xs ys i

numbered_length : (n : ℕ) (us : List Output) → length (with_number n us) ≡ length us
numbered_length n [] = refl
numbered_length n (u ∷ us) = ap suc (numbered_length n us)

-- from where the pairs of a call stand together, up to a place after them, those are wanted that all pairs want
module _ (pairs : List (ℕ × Output)) (n first i : ℕ) (t : IsTogether pairs n first) (after : first ≤ i) where
  rest : List (ℕ × Output)
  rest = with_number n t.outputs ++ t.after

  all_of : (o : Output) → wants_at n rest o ≡ wants_at n pairs o
  unfolding rest
  all_of o = sym (ap (λ l. wants_at n l o) t.is ∙ wants_append n t.before rest o
      ∙ ap (λ b. if b then true else wants_at n rest o) (wants_none n t.before o t.none_before))

  part_of : length t.outputs ≤ i - first → (o : Output) → wants_at n (slice_range pairs first i) o ≡ wants_at n pairs o
  unfolding rest
  part_of h o = ap (λ l. wants_at n (take (i - first) l) o) (ap (drop first) t.is ∙ ap (λ k. drop k (t.before ++ rest)) (sym t.at) ∙ dropped t.before rest)
      ∙ enough n (i - first) t.outputs t.after o h t.none_after ∙ all_of o

  -- up to a place where there is none of the call
  pub wants_up_to : output_of n (slice_get pairs i) ≡ None → (o : Output) → wants_at n (slice_range pairs first i) o ≡ wants_at n pairs o
  unfolding rest
  wants_up_to e o = part_of (most (nat_le (length t.outputs) (i - first)) refl) o
    where
      here : slice_get pairs i ≡ slice_get rest (i - first)
      here = ap (λ l. slice_get l i) t.is
          ∙ ap (slice_get (t.before ++ rest)) (let a = t.at in let z : i ≡ length t.before + (i - first) = omega (arith, after, a) in z)
          ∙ get_after t.before rest (i - first)

      most : (b : Bool) → nat_le (length t.outputs) (i - first) ≡ b → length t.outputs ≤ i - first
      most true q = grind (arith, nat_tests)
      most false q = let less : i - first < length t.outputs = grind (arith, nat_tests) in
          absurd (no_pair n t.outputs t.after (i - first) less (sym (ap (output_of n) here) ∙ e))

  -- or up to the end
  pub wants_to_end : length pairs ≤ i → (o : Output) → wants_at n (slice_range pairs first i) o ≡ wants_at n pairs o
  unfolding rest
  wants_to_end h o =
      let all = ap length t.is ∙ length-append t.before rest in
      let those = length-append (with_number n t.outputs) t.after in
      part_of (omega (arith, h, after, t.at, all, those, numbered_length n t.outputs)) o

-- ---- where the pass begins

pub none_asked : (n : ℕ) (pairs : List (ℕ × Output)) (first : ℕ) (needs : Needs) → AreWanted needs nothing_wanted
    → AreAsked (wants_at n (slice_range pairs first first)) (record { gives = false; takes = false; makes = false }) needs
none_asked n pairs first needs h = asked_same (λ o. false) (wants_at n (slice_range pairs first first)) (record { gives = false; takes = false; makes = false })
    needs (λ o. ap (λ k. wants_at n (take k (drop first pairs)) o) (let e : 0 ≡ first - first = omega arith in e)) (record {
      outputs = record { gives = refl; takes = refl; makes = refl };
      cells = h;
    })
