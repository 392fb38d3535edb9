-- The calls that a call made, one by one: where each stands in the log, and what follows it.
use Rattle.std.proofs.Common.{◌++◌, ◌+◌, ◌-◌, ◌<◌, ◌∙◌, ◌∷◌, ◌≡◌, ◌≤◌, [], ℕ, All, List, Some, ap, append_assoc, arith, drop, length, refl, slice_range, subst}
use Rattle.std.proofs.{Common.suc, Common.sym, Common.take, Common.zero, lemmas.List.drop-drop, lemmas.List.Elements.All-drop, lemmas.List.Elements.All-take}
use Rattle.std.specs.List.{slice_get}
use Rattle.cell_value.specs.declared.entries.Touch.{Touch}
use Rattle.core_program.proofs.OutcomesCompose.{none_some, some_same}
use Rattle.core_program.specs.{Run.Call, Run.Marked, Run.Result, State.State}
use Rattle.output_slice.proofs.PairsAdded.{drop_one}
use Rattle.output_slice.proofs.PiecesByChildren.{Follow, after_place, before_place, follow_rest, ordered_ends}
use Rattle.output_slice.specs.Children.{Ordered, begin_of, children_in, mark_or}

-- ---- from one of them to the next

-- those below one that was met are passed over
children_past : (number skip : ℕ) (es : List (Marked Call)) → children_in number skip es ≡ children_in (number + skip) 0 (drop skip es)
children_past number zero es = ap (λ n. children_in n 0 es) (let e : number ≡ number + 0 = omega arith in e)
children_past number (suc skip) [] = refl
children_past number (suc skip) (e ∷ es) = children_past (suc number) skip es
    ∙ ap (λ n. children_in n 0 (drop skip es)) (let e : suc number + skip ≡ number + suc skip = omega arith in e)

taken_get : {X : Type 0} (n i : ℕ) (xs : List X) (x : X) → slice_get xs i ≡ Some x → i < n → slice_get (take n xs) i ≡ Some x
taken_get zero i xs x e h = absurd (omega (arith, h))
taken_get (suc n) i [] x e h = absurd (none_some e)
taken_get (suc n) zero (y ∷ ys) x e h = e
taken_get (suc n) (suc i) (y ∷ ys) x e h = taken_get n i ys x e (omega (arith, h))

dropped_get : {X : Type 0} (n i : ℕ) (xs : List X) → slice_get (drop n xs) i ≡ slice_get xs (n + i)
dropped_get zero i xs = ap (slice_get xs) (let e : i ≡ 0 + i = omega arith in e)
dropped_get (suc n) i [] = refl
dropped_get (suc n) i (x ∷ xs) = dropped_get n i xs ∙ ap (slice_get (x ∷ xs)) (let e : suc (n + i) ≡ suc n + i = omega arith in e)

-- the next of them is a call, and after it come those that are not below it
pub child_met : (es : List (Marked Call)) (call below next : ℕ) (m : Marked Call) → slice_get es next ≡ Some m → call < next → next ≤ call + below
    → children_in next 0 (drop (next - (call + 1)) (take below (drop (call + 1) es)))
    ≡ next ∷ children_in (next + m.event.below + 1) 0 (drop ((next + m.event.below + 1) - (call + 1)) (take below (drop (call + 1) es)))
child_met es call below next m e from to =
    let l = take below (drop (call + 1) es) in
    let i = next - (call + 1) in
    let here : slice_get (drop (call + 1) es) i ≡ Some m =
    dropped_get (call + 1) i es ∙ ap (slice_get es) (let z : (call + 1) + i ≡ next = omega (arith, from) in z) ∙ e in
    let first : drop i l ≡ m ∷ drop (i + 1) l = drop_one l i m (taken_get below i (drop (call + 1) es) m here (omega (arith, from, to))) in
    ap (children_in next 0) first
    ∙ ap (λ l. next ∷ l) (
    children_past (suc next) m.event.below (drop (i + 1) l)
    ∙ ap (λ n. children_in n 0 (drop m.event.below (drop (i + 1) l))) (let z : suc next + m.event.below ≡ next + m.event.below + 1 = omega arith in z)
    ∙ ap (children_in (next + m.event.below + 1) 0) (drop-drop m.event.below (i + 1) l
    ∙ ap (λ n. drop n l) (let z : (i + 1) + m.event.below ≡ (next + m.event.below + 1) - (call + 1) = omega (arith, from) in z))
    )

-- so those that were found go on
pub child_next : (es : List (Marked Call)) (call below next after : ℕ) (m : Marked Call) (found more whole : List ℕ) → slice_get es next ≡ Some m
    → call < next → next ≤ call + below → after ≡ next + m.event.below + 1 → more ≡ found ++ next ∷ []
    → found ++ children_in next 0 (drop (next - (call + 1)) (take below (drop (call + 1) es))) ≡ whole
    → more ++ children_in after 0 (drop (after - (call + 1)) (take below (drop (call + 1) es))) ≡ whole
child_next es call below next after m found more whole e from to a p w =
    let rest : ℕ → List ℕ = λ n. children_in n 0 (drop (n - (call + 1)) (take below (drop (call + 1) es))) in
    ap (λ l. l ++ rest after) p ∙ append_assoc found (next ∷ []) (rest after) ∙ ap (λ n. found ++ (next ∷ rest n)) a
    ∙ ap (λ l. found ++ l) (sym (child_met es call below next m e from to)) ∙ w

pub dropped_all : {X : Type 0} (xs : List X) (n : ℕ) → length xs ≤ n → drop n xs ≡ []
dropped_all [] zero h = refl
dropped_all [] (suc n) h = refl
dropped_all (x ∷ xs) zero h = absurd (omega (arith, h))
dropped_all (x ∷ xs) (suc n) h = dropped_all xs n (omega (arith, h))

-- after the last call below a call there are none
pub children_end : (es : List (Marked Call)) (call below next : ℕ) → call + below < next
    → children_in next 0 (drop (next - (call + 1)) (take below (drop (call + 1) es))) ≡ []
children_end es call below next h = ap (children_in next 0) (none below (next - (call + 1)) (drop (call + 1) es) (omega (arith, h)))
  where
    none : {X : Type 0} (n k : ℕ) (xs : List X) → n ≤ k → drop k (take n xs) ≡ []
    none zero zero xs l = refl
    none zero (suc k) xs l = refl
    none (suc n) zero xs l = absurd (omega (arith, l))
    none (suc n) (suc k) [] l = refl
    none (suc n) (suc k) (x ∷ xs) l = none n k xs (omega (arith, l))

-- ---- where they stand

module _ (r : Result State Call) where
  pub record BeginsIn (at end begin : ℕ) : Type 0 where
    pub from : at ≤ begin
    pub to : begin ≤ end

  -- from each of them on, in the part of the log
  pub begins : (at number skip end : ℕ) (es : List (Marked Call)) → Follow r number es → Ordered at skip end es → (i : ℕ)
      → BeginsIn at end (begin_of r end (drop i (children_in number skip es)))
  begins at number skip end [] f h zero = record { from = h; to = omega arith }
  begins at number skip end [] f h (suc i) = record { from = h; to = omega arith }
  begins at number zero end (e ∷ es) f h zero =
      let here : slice_get r.events number ≡ Some e = ap (slice_get r.events) (let s : number ≡ number + 0 = omega arith in s) ∙ f 0 e refl in
      subst (BeginsIn at end) (ap (mark_or end) (sym here)) (record {
        from = h.0;
        to = omega (arith, ordered_ends (e.mark + length e.event.log) e.event.below end es h.1);
      })
  begins at number zero end (e ∷ es) f h (suc i) =
      let g = begins (e.mark + length e.event.log) (suc number) e.event.below end es (follow_rest r number e es f) h.1 i in
      record { from = omega (arith, h.0, g.from); to = g.to }
  begins at number (suc skip) end (e ∷ es) f h i = begins at (suc number) skip end es (follow_rest r number e es f) h i

  -- one of them, whose record ends before the next begins
  pub record ChildIn (end k : ℕ) (ks : List ℕ) : Type 0 where
    pub entry : Marked Call
    pub a_call : slice_get r.events k ≡ Some entry
    pub before : entry.mark + length entry.event.log ≤ begin_of r end ks

  pub child_in : (at number skip end : ℕ) (es : List (Marked Call)) → Follow r number es → Ordered at skip end es → (i k : ℕ)
      → slice_get (children_in number skip es) i ≡ Some k → ChildIn end k (drop (suc i) (children_in number skip es))
  child_in at number skip end [] f h i k q = absurd (none_some q)
  child_in at number zero end (e ∷ es) f h zero k q =
      let here : slice_get r.events number ≡ Some e = ap (slice_get r.events) (let s : number ≡ number + 0 = omega arith in s) ∙ f 0 e refl in
      record {
        entry = e;
        a_call = ap (slice_get r.events) (sym (some_same q)) ∙ here;
        before = (begins (e.mark + length e.event.log) (suc number) e.event.below end es (follow_rest r number e es f) h.1 0).from;
      }
  child_in at number zero end (e ∷ es) f h (suc i) k q =
      child_in (e.mark + length e.event.log) (suc number) e.event.below end es (follow_rest r number e es f) h.1 i k q
  child_in at number (suc skip) end (e ∷ es) f h i k q = child_in at (suc number) skip end es (follow_rest r number e es f) h i k q

  -- the marked records below a call
  pub below_follow : (number below : ℕ) → Follow r (number + 1) (take below (drop (number + 1) r.events))
  below_follow number below = λ i e q. sym (dropped_get (number + 1) i r.events) ∙ untaken below i (drop (number + 1) r.events) e q
    where
      untaken : (n i : ℕ) (xs : List (Marked Call)) (x : Marked Call) → slice_get (take n xs) i ≡ Some x → slice_get xs i ≡ Some x
      untaken zero i xs x e = absurd (none_some e)
      untaken (suc n) i [] x e = absurd (none_some e)
      untaken (suc n) zero (y ∷ ys) x e = e
      untaken (suc n) (suc i) (y ∷ ys) x e = untaken n i ys x e

-- ---- parts of the log

-- what holds of each touch of a part holds of a part of it
pub part_within : (P : Touch → Type 0) (log : List Touch) (a from to b : ℕ) → a ≤ from → from ≤ to → to ≤ b → All P (slice_range log a b)
    → All P (slice_range log from to)
part_within P log a from to b h k l g =
    subst (All P) (before_place log from to b k l) (All-take P (to - from) (slice_range log from b)
    (subst (λ n. All P (slice_range log n b)) (let e : a + (from - a) ≡ from = omega (arith, h) in e)
    (subst (All P) (after_place log a a (from - a) b (omega arith) (omega (arith, h, k, l)))
    (All-drop P ((a - a) + (from - a)) (slice_range log a b) g))))
