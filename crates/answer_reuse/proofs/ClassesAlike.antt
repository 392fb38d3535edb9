-- The calls of a run are of one class exactly where they are alike.
use Rattle.std.proofs.Common.{if◌then◌else◌, ◌+◌, ◌<◌, ◌==◌, ◌||◌, ◌∙◌, ◌≡◌, ◌≤◌, ◌⊎◌, ℕ, Bool, List, None, Option, Some, ap, arith, cond, false, find, inl}
use Rattle.std.proofs.Common.{inr, length, nat_eq, refl, slice_get, slice_index, subst, suc, sym, true, zero}
use Rattle.std.proofs.lemmas.{Bool.eq-eqb, Bool.ne_eqb, Bool.Decides.eqb_tells, Bool.Decides.nat_tests, List.FromFn.get_or-map-range_with_len}
use Rattle.std.specs.List.{range_with_len}
use Rattle.core_program.proofs.OutcomesCompose.{some_same}
use Rattle.core_program.specs.{ProgramRows.ProgramRows, Run.Call, Run.Result, Run.run, RunLaws.calls_in, State.State, WholeTables.WholeTables}
use Rattle.answer_book.specs.Numbers.{numbers_below}
use Rattle.answer_reuse.proofs.LikenessTested.{test_tells, test_told}
use Rattle.answer_reuse.specs.{Alike.Alike, Alike.are_alike_at, Alike.is_alike, Laws.AlikeDidTheSame, Laws.AlikeShareClasses}
use Rattle.answer_reuse.specs.Classes.{classes_of, least_alike, or_itself}

-- ---- the first number that passes a test

record First (p : ℕ → Bool) (numbers : List ℕ) : Type 0 where
  first : ℕ
  found : find p numbers ≡ Some first
  passes : p first ≡ true

first_from : (p : ℕ → Bool) (a m k : ℕ) → a ≤ k → k < a + m → p k ≡ true → First p (range_with_len a m)
first_from p a zero k l below e = absurd (omega arith)
first_from p a (suc m) k l below e = by (p a) refl (λ l. first_from p (a + 1) m k l (omega arith) e)
  where
    by : (b : Bool) → p a ≡ b → (a + 1 ≤ k → First p (range_with_len (a + 1) m)) → First p (range_with_len a (suc m))
    by true h later = record { first = a; found = ap (λ b. cond b (Some a) (find p (range_with_len (a + 1) m))) h; passes = h }
    by false h later = elim (eqb_tells a k) [
      | inl q ↦ absurd (let z : false ≡ true = sym h ∙ ap p q.1 ∙ e in cc)
      | inr q ↦
          let r = later (let z = q.1 in omega arith) in
          record {
            first = r.first;
            found = ap (λ b. cond b (Some a) (find p (range_with_len (a + 1) m))) h ∙ r.found;
            passes = r.passes;
          }
    ]

-- ---- likeness is an equivalence, where alike calls made as many cells

turned : {c d : Call} → Alike c d → Alike d c
turned a = record {
  way = (a.way.1, a.way.0);
  routine = sym a.routine;
  args = sym a.args;
  top = sym a.top;
  fresh = λ h. sym (a.fresh (omega (arith, h)));
  reads = sym a.reads;
  looked = sym a.looked;
  items = λ n l. sym (a.items n (let e = a.looked in omega (arith, e, l)));
}

or_true : (a b : Bool) → b ≡ true → (a || b) ≡ true
or_true true b e = refl
or_true false b e = e

which : (a b : Bool) → (a || b) ≡ true → (a ≡ true) ⊎ (b ≡ true)
which true b e = inl refl
which false b e = inr e

module _ (did : AlikeDidTheSame) (p : ProgramRows) (whole : WholeTables p) (input : List ℕ) (budget : ℕ) (r : Result State Call)
    (is : run p input budget ≡ Some r)
  where
    abbrev calls : List Call
    calls = calls_in r

    record Tied (j k : ℕ) : Type 0 where
      one : Call
      other : Call
      at : slice_get calls j ≡ Some one
      to : slice_get calls k ≡ Some other
      alike : Alike one other

    abbrev AreTied : ℕ → ℕ → Type 0
    AreTied j k = (j ≡ k) ⊎ Tied j k

    tied : (j k : ℕ) → is_alike calls j k ≡ true → AreTied j k
    tied j k e = elim (which (nat_eq j k) (are_alike_at (slice_get calls j) (slice_get calls k)) e) [
      | inl q ↦ inl (grind (arith, nat_tests))
      | inr q ↦ inr (by (slice_get calls j) (slice_get calls k) refl refl q)
    ]
      where
        by : (x y : Option Call) → slice_get calls j ≡ x → slice_get calls k ≡ y → are_alike_at x y ≡ true → Tied j k
        by (Some c) (Some d) at to e = record { one = c; other = d; at = at; to = to; alike = test_tells c d e }
        by None y at to e = absurd (let z : false ≡ true = e in cc)
        by (Some c) None at to e = absurd (let z : false ≡ true = e in cc)

    told : (j k : ℕ) → AreTied j k → is_alike calls j k ≡ true
    told j k (inl e) = ap (λ b. b || are_alike_at (slice_get calls j) (slice_get calls k)) (let z : nat_eq j k ≡ true = grind (arith, nat_tests) in z)
    told j k (inr t) = or_true (nat_eq j k) (are_alike_at (slice_get calls j) (slice_get calls k))
        ((λ i. are_alike_at (t.at i) (t.to i)) ∙ test_told t.one t.other t.alike)

    chained : (j k l : ℕ) → Tied j k → Tied k l → Tied j l
    chained j k l s t =
        let same : s.other ≡ t.one = some_same (sym s.to ∙ t.at) in
        let a = s.alike in
        let b : Alike s.other t.other = subst (λ c. Alike c t.other) (sym same) t.alike in
        let first = did p whole input budget r is j k s.one s.other s.at s.to a in
        let second = did p whole input budget r is k l s.other t.other s.to t.to b in
        record {
          one = s.one;
          other = t.other;
          at = s.at;
          to = t.to;
          alike = record {
            way = (a.way.0, b.way.1);
            routine = a.routine ∙ b.routine;
            args = a.args ∙ b.args;
            top = a.top ∙ b.top;
            fresh = λ h. a.fresh (let x = first.made in let y = second.made in omega (arith, h, x, y))
                ∙ b.fresh (let x = first.made in let y = second.made in omega (arith, h, x, y));
            reads = a.reads ∙ b.reads;
            looked = a.looked ∙ b.looked;
            items = λ n l. a.items n l ∙ b.items n (let e = a.looked in omega (arith, e, l));
          };
        }

    back : (j k : ℕ) → AreTied j k → AreTied k j
    back j k (inl e) = inl (sym e)
    back j k (inr t) = inr (record { one = t.other; other = t.one; at = t.to; to = t.at; alike = turned t.alike })

    on : (j k l : ℕ) → AreTied j k → AreTied k l → AreTied j l
    on j k l (inl e) t = subst (λ n. AreTied n l) (sym e) t
    on j k l (inr s) (inl e) = subst (AreTied j) e (inr s)
    on j k l (inr s) (inr t) = inr (chained j k l s t)

    abbrev alike_to : ℕ → ℕ → Bool
    alike_to k other = is_alike calls other k

    -- the numbers that are alike to one of two tied calls are alike to the other
    same_alikes : (j k : ℕ) → AreTied j k → alike_to j ≡ alike_to k
    same_alikes j k t = (λ i other. by other (is_alike calls other j) (is_alike calls other k) refl refl i)
      where
        by : (other : ℕ) (a b : Bool) → is_alike calls other j ≡ a → is_alike calls other k ≡ b → is_alike calls other j ≡ is_alike calls other k
        by other true true e f = e ∙ sym f
        by other false false e f = e ∙ sym f
        by other true false e f = e ∙ sym (told other k (on other j k (tied other j e) t))
        by other false true e f = told other j (on other k j (tied other k f) (back j k t)) ∙ sym f

    first_alike : (k : ℕ) → k < length calls → First (alike_to k) (numbers_below (length calls))
    first_alike k l = first_from (alike_to k) 0 (length calls) k (omega arith) (omega arith) (told k k (inl refl))

    least_is : (k : ℕ) (l : k < length calls) → least_alike calls k ≡ (first_alike k l).first
    unfolding least_alike
    least_is k l = ap (or_itself k) (first_alike k l).found

    class_at : (k : ℕ) → k < length calls → slice_index (classes_of calls) k ≡ least_alike calls k
    class_at k l = get_or-map-range_with_len (least_alike calls) 0 (length calls) k k 0 l (omega arith)

    class_is : (k : ℕ) (l : k < length calls) → slice_index (classes_of calls) k ≡ (first_alike k l).first
    class_is k l = class_at k l ∙ least_is k l

    -- two tied calls have one least call
    one_class : (j k : ℕ) (l : j < length calls) (m : k < length calls) → AreTied j k → (first_alike j l).first ≡ (first_alike k m).first
    one_class j k l m t =
        some_same (sym (first_alike j l).found
        ∙ ap (λ (test : ℕ → Bool). find test (numbers_below (length calls))) (same_alikes j k t) ∙ (first_alike k m).found)

    -- and two calls with one least call are tied
    tied_by : (j k : ℕ) (l : j < length calls) (m : k < length calls) → (first_alike j l).first ≡ (first_alike k m).first → AreTied j k
    tied_by j k l m e =
        let f = first_alike j l in
        let g = first_alike k m in
        on j f.first k (back f.first j (tied f.first j f.passes)) (subst (λ n. AreTied n k) (sym e) (tied g.first k g.passes))

    class_tells : (j k : ℕ) → j < length calls → k < length calls
        → (slice_index (classes_of calls) j == slice_index (classes_of calls) k) ≡ is_alike calls j k
    class_tells j k l m = by (is_alike calls j k) refl
      where
        by : (b : Bool) → is_alike calls j k ≡ b → (slice_index (classes_of calls) j == slice_index (classes_of calls) k) ≡ is_alike calls j k
        by true e = eq-eqb (slice_index (classes_of calls) j) (slice_index (classes_of calls) k)
            (class_is j l ∙ one_class j k l m (tied j k e) ∙ sym (class_is k m)) ∙ sym e
        by false e = ne_eqb (slice_index (classes_of calls) j) (slice_index (classes_of calls) k)
            (λ z. absurd (let t = told j k (tied_by j k l m (sym (class_is j l) ∙ z ∙ class_is k m)) in let y : false ≡ true = sym e ∙ t in cc)) ∙ sym e

pub alike_share_classes : AlikeDidTheSame → AlikeShareClasses
alike_share_classes did p whole input budget r is j k l m = class_tells did p whole input budget r is j k l m
