-- Judgements on the calls of a class, and taking them back, one by one.
use Rattle.std.proofs.Common.{if◌then◌else◌, ◌*◌, ◌++◌, ◌+◌, ◌-◌, ◌<◌, ◌==◌, ◌∙◌, ◌∷◌, ◌≡◌, ◌≤◌, [], ℕ, Bool, List, None, Option, Some, ap, arith, false}
use Rattle.std.proofs.Common.{filter, length, refl, slice_get, slice_index, slice_set, subst, suc, sym, true, zero}
use Rattle.std.proofs.lemmas.List.{length-append, length-map, length-set, map-append, Sums.fold-append, Sums.sum_by-append}
use Rattle.answer_book.specs.{Entries.entries_without, Entries.entry_at, Entries.with_taken_back, InRange.IsInRange, Numbers.numbers_below}
use Rattle.answer_book.specs.declared.entries.{Entry.Entry, Judgement.Judgement, What.What, What.TheVariants.Judged, What.TheVariants.Trusted}
use Rattle.optimal_query.specs.Search.{Search, search_with, search_without}
use Rattle.answer_reuse.proofs.NumbersPassing.{count_more, one_if, passing_more}
use Rattle.answer_reuse.specs.Shared.{IsOfCalls, judged_each, one_steps, search_with_each, search_with_one, search_without_each, search_without_one}
use Rattle.answer_reuse.specs.Shared.{shared_steps, without_one_steps}

-- ---- what judgements leave as it was

pub with_routine : (s : Search) (ws : List What) → (search_with_each s ws).book.routine ≡ s.book.routine
with_routine s [] = refl
with_routine s (w ∷ ws) = with_routine (search_with s w) ws

pub with_depth : (s : Search) (ws : List What) → (search_with_each s ws).depth ≡ s.depth
with_depth s [] = refl
with_depth s (w ∷ ws) = with_depth (search_with s w) ws

pub with_entries : (s : Search) (ws : List What) → length (search_with_each s ws).book.entries ≡ length s.book.entries + length ws
with_entries s [] = omega arith
with_entries s (w ∷ ws) =
    let e = with_entries (search_with s w) ws in
    let more = length-append s.book.entries (record { what = w; standing = true } ∷ []) in
    omega (arith, e, more)

-- ---- one judgement more

judged_more : (s : Search) (j : Judgement) (calls : List ℕ) (b : Bool) (call : ℕ)
    → search_with_each s (judged_each j (calls ++ one_if b call)) ≡ search_with_one (search_with_each s (judged_each j calls)) b call j
judged_more s j calls true call = ap (search_with_each s) (map-append (λ call. Judged call j) calls (call ∷ []))
    ∙ fold-append search_with s (judged_each j calls) (Judged call j ∷ [])
judged_more s j calls false call = ap (search_with_each s) (map-append (λ call. Judged call j) calls []) ∙ fold-append search_with s (judged_each j calls) []

steps_more : (depth : List ℕ) (calls : List ℕ) (b : Bool) (call : ℕ)
    → shared_steps depth (calls ++ one_if b call) ≡ shared_steps depth calls + one_steps depth b call
steps_more depth calls true call =
    let e = sum_by-append (λ call. 3 * (slice_index depth call + 1)) calls (call ∷ []) in omega (arith, e)
steps_more depth calls false call =
    let e = sum_by-append (λ call. 3 * (slice_index depth call + 1)) calls [] in omega (arith, e)

-- the calls below one that pass a test are judged
pub record Judging (s : Search) (p : ℕ → Bool) (j : Judgement) (from to call : ℕ) (now : Search) : Type 0 where
  pub judged : now ≡ search_with_each s (judged_each j (filter p (numbers_below call)))
  pub not_fallen : from ≤ to
  pub cost : to ≤ from + shared_steps s.depth (filter p (numbers_below call))

module _ {s : Search} {p : ℕ → Bool} {j : Judgement} {from to call : ℕ} {now : Search} (g : Judging s p j from to call now) where
  pub judging_routine : now.book.routine ≡ s.book.routine
  judging_routine = ap (λ (t : Search). t.book.routine) g.judged ∙ with_routine s (judged_each j (filter p (numbers_below call)))

  judging_depth : now.depth ≡ s.depth
  judging_depth = ap (λ (t : Search). t.depth) g.judged ∙ with_depth s (judged_each j (filter p (numbers_below call)))

  pub judging_entries : length now.book.entries ≡ length s.book.entries + length (filter p (numbers_below call))
  judging_entries = ap (λ (t : Search). length t.book.entries) g.judged ∙ with_entries s (judged_each j (filter p (numbers_below call)))
      ∙ ap (λ n. length s.book.entries + n) (length-map (filter p (numbers_below call)) (λ call. Judged call j))

  pub judging_more : (new : Search) (after : ℕ) → new ≡ search_with_one now (p call) call j → to ≤ after → after ≤ to + one_steps now.depth (p call) call
      → Judging s p j from after (call + 1) new
  judging_more new after e l cost = record {
    judged = e ∙ ap (λ t. search_with_one t (p call) call j) g.judged ∙ sym (judged_more s j (filter p (numbers_below call)) (p call) call)
        ∙ ap (λ calls. search_with_each s (judged_each j calls)) (sym (passing_more p call));
    not_fallen = let z = g.not_fallen in omega arith;
    cost =
        let a = steps_more s.depth (filter p (numbers_below call)) (p call) call in
        let b = ap (shared_steps s.depth) (passing_more p call) in
        let d = ap (λ depth. one_steps depth (p call) call) judging_depth in
        let h = g.cost in
        omega (arith, a, b, d, h, cost);
  }

-- ---- what taking back leaves as it was

slice_get-set_other : {X : Type 0} (xs : List X) (i j : ℕ) (x : X) → (j ≡ i → ⊥) → slice_get (slice_set xs i x) j ≡ slice_get xs j
slice_get-set_other [] i j x h = refl
slice_get-set_other (y ∷ xs) zero zero x h = absurd (h refl)
slice_get-set_other (y ∷ xs) zero (suc j) x h = refl
slice_get-set_other (y ∷ xs) (suc i) zero x h = refl
slice_get-set_other (y ∷ xs) (suc i) (suc j) x h = slice_get-set_other xs i j x (λ e. h (omega (arith, e)))

without_other : (es : List Entry) (m number : ℕ) → 0 < m → m < number → entry_at (entries_without es m) number ≡ entry_at es number
without_other es m number first later = by (entry_at es m) (number == 0)
  where
    by : (o : Option Entry) (b : Bool)
        → (if b then None else slice_get (with_taken_back es (m - 1) o) (number - 1)) ≡ (if b then None else slice_get es (number - 1))
    by o true = refl
    by None false = refl
    by (Some e) false = slice_get-set_other es (m - 1) (number - 1) (record e { standing = false }) (λ q. absurd (omega (arith, q)))

without_length : (es : List Entry) (m : ℕ) → length (entries_without es m) ≡ length es
without_length es m = by (entry_at es m)
  where
    by : (o : Option Entry) → length (with_taken_back es (m - 1) o) ≡ length es
    by None = refl
    by (Some e) = length-set es (m - 1) (record e { standing = false })

-- the search with the entries of these numbers taken back, all of them before this one
pub record Later (s t : Search) (number : ℕ) : Type 0 where
  pub routine : t.book.routine ≡ s.book.routine
  pub depth : t.depth ≡ s.depth
  pub many : length t.book.entries ≡ length s.book.entries
  pub same : (k : ℕ) → number ≤ k → entry_at t.book.entries k ≡ entry_at s.book.entries k

abbrev Before : ℕ → List ℕ → Type 0
Before number [] = Unit {0}
Before number (m ∷ ms) = (0 < m) × (m < number) × Before number ms

later : (s : Search) (ms : List ℕ) (number : ℕ) → Before number ms → Later s (search_without_each s ms) number
later s [] number h = record { routine = refl; depth = refl; many = refl; same = λ k l. refl }
later s (m ∷ ms) number h =
    let r = later (search_without s m) ms number h.2 in
    record {
      routine = r.routine;
      depth = r.depth;
      many = r.many ∙ without_length s.book.entries m;
      same = λ k l. r.same k l ∙ without_other s.book.entries m k h.0 (let z = h.1 in omega arith);
    }

before_append : (number : ℕ) (ms ns : List ℕ) → Before number ms → Before number ns → Before number (ms ++ ns)
before_append number [] ns h k = k
before_append number (m ∷ ms) ns h k = (h.0, h.1, before_append number ms ns h.2 k)

before_more : (number : ℕ) (ms : List ℕ) → Before number ms → Before (number + 1) ms
before_more number [] h = tt
before_more number (m ∷ ms) h = (h.0, (let z = h.1 in omega arith), before_more number ms h.2)

-- ---- one more taken back

taken_more : (s : Search) (ms : List ℕ) (b : Bool) (number : ℕ)
    → search_without_each s (ms ++ one_if b number) ≡ search_without_one (search_without_each s ms) b number
taken_more s ms true number = fold-append search_without s ms (number ∷ [])
taken_more s ms false number = fold-append search_without s ms []

-- the entries below one that pass a test are taken back
pub record Taking (s : Search) (p : ℕ → Bool) (from to taken number : ℕ) (now : Search) : Type 0 where
  pub taken_back : now ≡ search_without_each s (filter p (numbers_below number))
  pub count : taken ≡ length (filter p (numbers_below number))
  pub before : Before number (filter p (numbers_below number))
  pub not_fallen : from ≤ to
  pub none_taken : taken ≡ 0 → to ≡ from

module _ {s : Search} {p : ℕ → Bool} {from to taken number : ℕ} {now : Search} (g : Taking s p from to taken number now) where
  pub taking_later : Later s now number
  taking_later = subst (λ t. Later s t number) (sym g.taken_back) (later s (filter p (numbers_below number)) number g.before)

  one_before : 0 < number → (b : Bool) → Before (number + 1) (one_if b number)
  one_before first true = (first, omega arith, tt)
  one_before first false = tt

  pub taking_more : 0 < number → (new : Search) (more after : ℕ) → new ≡ search_without_one now (p number) number → more ≡ (if p number then 1 else 0)
      → to ≤ after → after ≤ to + without_one_steps now (p number) number → Taking s p from after (taken + more) (number + 1) new
  taking_more first new more after e n l cost = record {
    taken_back = e ∙ ap (λ t. search_without_one t (p number) number) g.taken_back ∙ sym (taken_more s (filter p (numbers_below number)) (p number) number)
        ∙ ap (search_without_each s) (sym (passing_more p number));
    count = let h = g.count in let c = count_more p number in omega (arith, h, c, n);
    before = subst (Before (number + 1)) (sym (passing_more p number))
        (before_append (number + 1) (filter p (numbers_below number)) (one_if (p number) number)
        (before_more number (filter p (numbers_below number)) g.before) (one_before first (p number)));
    not_fallen = let z = g.not_fallen in omega arith;
    none_taken = λ none. by (p number) n cost none;
  }
    where
      by : (b : Bool) → more ≡ (if b then 1 else 0) → after ≤ to + without_one_steps now b number → taken + more ≡ 0 → after ≡ from
      by true one cost none = absurd (omega (arith, one, none))
      by false one cost none = let before = g.none_taken (omega (arith, none)) in omega (arith, before, cost, l)

-- ---- what an entry names

pub named_of : (calls others routines : ℕ) (what : What) → calls ≡ others → IsInRange calls routines what → IsOfCalls others what
named_of calls others routines (Judged call judgement) e h = omega (arith, e, h)
named_of calls others routines (Trusted routine) e h = tt

pub at_most_one : (b : Bool) → (if b then 1 else 0) ≤ 1
at_most_one true = omega arith
at_most_one false = omega arith
