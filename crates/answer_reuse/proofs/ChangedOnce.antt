-- Judgements on a class are taken back first to last, so that the mark of each call changes once, with its last judgement.
use Rattle.std.proofs.Common.{if◌then◌else◌, ◌*◌, ◌++◌, ◌+◌, ◌-◌, ◌<◌, ◌==◌, ◌∙◌, ◌∷◌, ◌≡◌, ◌≢◌, ◌≤◌, ◌⊎◌, [], ℕ, Bool, List, None, Option, Some, ap, arith}
use Rattle.std.proofs.Common.{false, filter, inl, inr, length, refl, reverse, slice_get, slice_index, slice_set, suc, sum_by, sym, true, zero}
use Rattle.std.proofs.lemmas.{Bool.eq-eqb, Bool.ne_eqb, Bool.Decides.eqb_tells, List.reverse-append, List.Sums.sum_by-cons, List.Sums.sum_by-le-sum_by}
use Rattle.std.specs.List.{cons_option, filter_map, range_with_len}
use Rattle.answer_book.proofs.EntryLemmas.{last_by_entries, on_another, on_its_call}
use Rattle.answer_book.proofs.WithdrawnLemmas.{IsWithdrawn, entry_is_withdrawn, same_judgement, same_trust}
use Rattle.answer_book.specs.{Marks.is_trusted, Marks.last_judgement, Marks.mark_given, Marks.mark_of, Numbers.last_of, Spoken.entry_judgement}
use Rattle.answer_book.specs.Entries.{entries_without, entry_at, entry_saying, standing_answers}
use Rattle.answer_book.specs.declared.entries.{Entry.Entry, Judgement.Judgement, What.What, What.TheVariants.Judged, What.TheVariants.Trusted}
use Rattle.optimal_query.specs.{Changed.MarkStays, Changed.most_steps_at, Search.Search, Search.search_without}
use Rattle.answer_reuse.specs.Classes.{calls_of}
use Rattle.answer_reuse.specs.Shared.{IsOfCalls, judges_in, judges_of, search_without_one, shared_steps, without_one_steps}

-- ---- the last of a list with one more in front

module _ {X : Type 0} (x : X) where
  some_last : (xs : List X) → (y : X) × (last_of (x ∷ xs) ≡ Some y)
  some_last xs = by (reverse xs) (reverse-append (x ∷ []) xs)
    where
      by : (l : List X) → reverse (x ∷ xs) ≡ l ++ x ∷ [] → (y : X) × (last_of (x ∷ xs) ≡ Some y)
      by [] e = (x, ap (λ (l : List X). slice_get l 0) e)
      by (y ∷ l) e = (y, ap (λ (l : List X). slice_get l 0) e)

  last_stays : (xs : List X) (y : X) → last_of xs ≡ Some y → last_of (x ∷ xs) ≡ Some y
  last_stays xs y h = ap (λ (l : List X). slice_get l 0) (reverse-append (x ∷ []) xs) ∙ by (reverse xs) h
    where
      by : (l : List X) → slice_get l 0 ≡ Some y → slice_get (l ++ x ∷ []) 0 ≡ Some y
      by [] e = absurd (let z : ⊥ = cc in z)
      by (z ∷ l) e = e

-- the first element of which a function gives something, taken away
first_given : {X Y : Type 0} (f : X → Option Y) (xs : List X) (i : ℕ) (x other : X) (y : Y) → slice_get xs i ≡ Some x → f x ≡ Some y → f other ≡ None
    → ((k : ℕ) (z : X) → k < i → slice_get xs k ≡ Some z → f z ≡ None) → filter_map f xs ≡ y ∷ filter_map f (slice_set xs i other)
first_given f [] i x other y at gives none before = absurd (let z : ⊥ = cc in z)
first_given f (z ∷ xs) zero x other y at gives none before =
    let same : z ≡ x = cc in
    (λ i. cons_option ((ap f same ∙ gives) i) (filter_map f xs)) ∙ ap (λ l. y ∷ l) (sym (ap (λ o. cons_option o (filter_map f xs)) none))
first_given f (z ∷ xs) (suc i) x other y at gives none before =
    let front : f z ≡ None = before 0 z (omega arith) refl in
    ap (λ o. cons_option o (filter_map f xs)) front
    ∙ first_given f xs i x other y at gives none (λ k z l e. before (suc k) z (omega arith) e)
    ∙ ap (λ l. y ∷ l) (sym (ap (λ o. cons_option o (filter_map f (slice_set xs i other))) front))

-- ---- sums over numbers that pass a test

module _ (f g : ℕ → ℕ) (p : ℕ → Bool) (paid call : ℕ) (less : (k : ℕ) → g k ≤ f k) (here : paid + g call ≤ f call) (passes : p call ≡ true) where
  -- what is less by so much at one of them is less by so much as a sum
  sum_less : (a n : ℕ) → a ≤ call → call < a + n → paid + sum_by g (filter p (range_with_len a n)) ≤ sum_by f (filter p (range_with_len a n))
  sum_less a zero l h = absurd (omega arith)
  sum_less a (suc n) l h = by (p a) refl (eqb_tells a call) (λ from to. sum_less (a + 1) n from to)
    where
      by : (b : Bool) → p a ≡ b → (((a == call) ≡ true) × (a ≡ call)) ⊎ (((a == call) ≡ false) × (a ≢ call))
          → (a + 1 ≤ call → call < a + 1 + n
          → paid + sum_by g (filter p (range_with_len (a + 1) n)) ≤ sum_by f (filter p (range_with_len (a + 1) n)))
          → paid + sum_by g (if b then a ∷ filter p (range_with_len (a + 1) n) else filter p (range_with_len (a + 1) n))
          ≤ sum_by f (if b then a ∷ filter p (range_with_len (a + 1) n) else filter p (range_with_len (a + 1) n))
      by true e (inl q) later =
          let fs = sum_by-cons f a (filter p (range_with_len (a + 1) n)) in
          let gs = sum_by-cons g a (filter p (range_with_len (a + 1) n)) in
          let others = sum_by-le-sum_by g f (filter p (range_with_len (a + 1) n)) less in
          let fa = ap f q.1 in
          let ga = ap g q.1 in
          omega (arith, fs, gs, others, fa, ga, here)
      by true e (inr q) later =
          let fs = sum_by-cons f a (filter p (range_with_len (a + 1) n)) in
          let gs = sum_by-cons g a (filter p (range_with_len (a + 1) n)) in
          let rest = later (let d = q.1 in omega arith) (omega arith) in
          omega (arith, fs, gs, rest, less a)
      by false e (inl q) later = absurd (let z : true ≡ false = sym passes ∙ sym (ap p q.1) ∙ e in cc)
      by false e (inr q) later = later (let d = q.1 in omega arith) (omega arith)

-- ---- the steps that are left

abbrev if_judged : ℕ → Option Judgement → ℕ
if_judged steps None = 0
if_judged steps (Some judgement) = steps

-- one change of a call that is judged, and of each such call of the class
abbrev steps_left_at : (depth : List ℕ) → List Entry → (call : ℕ) → ℕ
steps_left_at depth entries call = if_judged (3 * (slice_index depth call + 1)) (last_judgement (standing_answers entries) call)

abbrev pub steps_left : (depth : List ℕ) → List Entry → (classes : List ℕ) → (least : ℕ) → ℕ
steps_left depth entries classes least = sum_by (steps_left_at depth entries) (calls_of classes least)

pub most_left : (depth : List ℕ) (entries : List Entry) (classes : List ℕ) (least : ℕ)
    → steps_left depth entries classes least ≤ shared_steps depth (calls_of classes least)
most_left depth entries classes least =
    sum_by-le-sum_by (steps_left_at depth entries) (λ call. 3 * (slice_index depth call + 1)) (calls_of classes least)
    (λ call. by (3 * (slice_index depth call + 1)) (last_judgement (standing_answers entries) call))
  where
    by : (steps : ℕ) (o : Option Judgement) → if_judged steps o ≤ steps
    by steps None = omega arith
    by steps (Some judgement) = omega arith

mark_same : (routine : List ℕ) (one other : List What) (call : ℕ) → last_judgement one call ≡ last_judgement other call
    → is_trusted one (slice_index routine call) ≡ is_trusted other (slice_index routine call) → mark_of routine one call ≡ mark_of routine other call
unfolding mark_of
mark_same routine one other call judged trusted = λ i. mark_given (judged i) (trusted i)

module _ (classes : List ℕ) (least : ℕ) where
  -- no entry below this number judges a call of the class and stands
  abbrev pub AreGone : List Entry → ℕ → Type 0
  AreGone entries number = (k : ℕ) → k < number → judges_in classes least (entry_at entries k) ≡ false

  no_judgement : (call : ℕ) → slice_index classes call ≡ least → (e : Entry) → judges_of classes least e ≡ false → entry_judgement call e ≡ None
  no_judgement call own e h = by e.what e.standing h
    where
      by : (what : What) (b : Bool) → judges_of classes least (record { what = what; standing = b }) ≡ false
          → entry_judgement call (record { what = what; standing = b }) ≡ None
      by (Trusted routine) true h = refl
      by (Trusted routine) false h = refl
      by (Judged other judgement) false h = refl
      by (Judged other judgement) true h = elim (eqb_tells other call) [
        | inl q ↦ absurd (let z : true ≡ false = sym (eq-eqb (slice_index classes other) least (ap (slice_index classes) q.1 ∙ own)) ∙ h in cc)
        | inr q ↦ ap (λ (b : Bool). if b then Some judgement else None) q.0
      ]

  at_place : (es : List Entry) (place : ℕ) → entry_at es (place + 1) ≡ slice_get es place
  at_place es place = ap (λ (b : Bool). if b then None else slice_get es (place + 1 - 1)) (ne_eqb (place + 1) 0 (λ z. absurd (omega (arith, z))))
      ∙ ap (slice_get es) (let z : place + 1 - 1 ≡ place = omega arith in z)

  -- with all before it gone, the entry that is taken back gave the first judgement on its call
  was_first : (es after : List Entry) (place call : ℕ) (judgement : Judgement) → IsWithdrawn es after place (Judged call judgement)
      → slice_index classes call ≡ least → AreGone es (place + 1)
      → filter_map (entry_judgement call) es ≡ judgement ∷ filter_map (entry_judgement call) after
  was_first es after place call judgement w own gone =
      first_given (entry_judgement call) es place (entry_saying (Judged call judgement)) (record { what = Judged call judgement; standing = false }) judgement
      w.at (on_its_call call judgement) refl
      (λ k z l at. no_judgement call own z (sym (ap (judges_in classes least) (at_place es k ∙ at)) ∙ gone (k + 1) (omega arith)))
      ∙ ap (λ (l : List Entry). judgement ∷ filter_map (entry_judgement call) l) (sym w.set)

  set_gone : (es : List Entry) (i k : ℕ) (x : Entry) → judges_of classes least x ≡ false
      → ((k ≡ i → ⊥) → judges_in classes least (slice_get es k) ≡ false) → judges_in classes least (slice_get (slice_set es i x) k) ≡ false
  set_gone [] i k x h other = refl
  set_gone (y ∷ es) zero zero x h other = h
  set_gone (y ∷ es) zero (suc k) x h other = other (λ e. absurd (omega (arith, e)))
  set_gone (y ∷ es) (suc i) zero x h other = other (λ e. absurd (omega (arith, e)))
  set_gone (y ∷ es) (suc i) (suc k) x h other = set_gone es i k x h (λ d. other (λ e. d (omega (arith, e))))

  one_more_gone : (es : List Entry) (number : ℕ) (x : Entry) → judges_of classes least x ≡ false → AreGone es number
      → AreGone (slice_set es (number - 1) x) (number + 1)
  one_more_gone es number x h gone k l = by (k == 0) (gone k)
    where
      earlier : (k - 1 ≡ number - 1 → ⊥) → k < number
      earlier apart = elim (eqb_tells k number) [
        | inl q ↦ absurd (apart (ap (λ n. n - 1) q.1))
        | inr q ↦ let d = q.1 in omega arith
      ]

      by : (b : Bool) → (k < number → judges_in classes least (if b then None else slice_get es (k - 1)) ≡ false)
          → judges_in classes least (if b then None else slice_get (slice_set es (number - 1) x) (k - 1)) ≡ false
      by true before = refl
      by false before = set_gone es (number - 1) (k - 1) x h (λ apart. before (earlier apart))

-- the entries below a number are gone, and what was paid and what is left is no more than one change of each call
pub record Paying (s : Search) (classes : List ℕ) (least from to number : ℕ) (now : Search) : Type 0 where
  pub gone : AreGone classes least now.book.entries number
  pub cost : to + steps_left s.depth now.book.entries classes least ≤ from + shared_steps s.depth (calls_of classes least)

module _ {s : Search} {classes : List ℕ} {least from to number : ℕ} {now : Search} (g : Paying s classes least from to number now)
    (depth : now.depth ≡ s.depth) (new : Search) (after : ℕ) where
  abbrev es : List Entry
  es = now.book.entries

  abbrev left : List Entry
  left = entries_without es number

  -- an entry that is none of those to be taken back
  passed_by : judges_in classes least (entry_at es number) ≡ false → new ≡ now → after ≤ to → Paying s classes least from after (number + 1) new
  passed_by none is cost = record {
    gone = λ k l. ap (λ (t : Search). judges_in classes least (entry_at t.book.entries k)) is
        ∙ elim (eqb_tells k number) [
          | inl q ↦ ap (λ n. judges_in classes least (entry_at es n)) q.1 ∙ none
          | inr q ↦ g.gone k (let d = q.1 in omega arith)
        ];
    cost =
        let same = ap (λ (t : Search). steps_left s.depth t.book.entries classes least) is in
        let before = g.cost in
        omega (arith, same, before, cost);
  }

  module _ (call : ℕ) (judgement : Judgement) (at : entry_at es number ≡ Some (entry_saying (Judged call judgement))) (own : slice_index classes call ≡ least)
      (inside : call < length classes) (first : 0 < number) where
    abbrev steps : ℕ
    steps = 3 * (slice_index s.depth call + 1)

    withdrawn : IsWithdrawn es left (number - 1) (Judged call judgement)
    withdrawn = entry_is_withdrawn es number (Judged call judgement) at

    said : filter_map (entry_judgement call) es ≡ judgement ∷ filter_map (entry_judgement call) left
    said = was_first classes least es left (number - 1) call judgement withdrawn own (λ k l. g.gone k (omega arith))

    -- the last judgement on the call, before and after
    last_before : last_judgement (standing_answers es) call ≡ last_of (judgement ∷ filter_map (entry_judgement call) left)
    last_before = last_by_entries es call ∙ ap last_of said

    had : steps_left_at s.depth es call ≡ steps
    had = let some = some_last judgement (filter_map (entry_judgement call) left) in ap (if_judged steps) (last_before ∙ some.1)

    less : steps_left_at s.depth left call ≤ steps → (k : ℕ) → steps_left_at s.depth left k ≤ steps_left_at s.depth es k
    less here k = elim (eqb_tells k call) [
      | inl q ↦ let a = ap (steps_left_at s.depth left) q.1 in let b = ap (steps_left_at s.depth es) q.1 in omega (arith, a, b, had, here)
      | inr q ↦ let same = ap (if_judged (3 * (slice_index s.depth k + 1)))
          (same_judgement es left (number - 1) (Judged call judgement) k withdrawn (on_another call k judgement (λ e. absurd (q.1 e)))) in omega (arith, same)
    ]

    all_less : (paid : ℕ) → paid + steps_left_at s.depth left call ≤ steps
        → paid + steps_left s.depth left classes least ≤ steps_left s.depth es classes least
    all_less paid here =
        sum_less (steps_left_at s.depth es) (steps_left_at s.depth left) (λ other. slice_index classes other == least) paid call
        (less (omega (arith, here))) (omega (arith, here, had)) (eq-eqb (slice_index classes call) least own) 0 (length classes) (omega arith) (omega arith)

    -- where a judgement is left on the call, it is the last as before
    stays : (judged : Judgement) → last_judgement (standing_answers left) call ≡ Some judged → MarkStays now number
    stays judged is = record {
      call = call;
      judgement = judgement;
      judged = at;
      same = mark_same now.book.routine (standing_answers left) (standing_answers es) call
          (is ∙ sym (last_before ∙ last_stays judgement (filter_map (entry_judgement call) left) judged (sym (last_by_entries left call) ∙ is)))
          (same_trust es left (number - 1) (Judged call judgement) (slice_index now.book.routine call) withdrawn refl);
    }

    paid_for : after ≤ to + without_one_steps now true number → (MarkStays now number → after ≡ to) → (o : Option Judgement)
        → last_judgement (standing_answers left) call ≡ o
        → after + steps_left s.depth left classes least ≤ to + steps_left s.depth es classes least
    paid_for cost nothing None is =
        let gone = ap (if_judged steps) is in
        let most = ap (most_steps_at now) at in
        let deep = ap (λ (d : List ℕ). 3 * (slice_index d call + 1)) depth in
        let all = all_less steps (omega (arith, gone)) in
        omega (arith, cost, most, deep, all)
    paid_for cost nothing (Some judged) is =
        let same = ap (if_judged steps) is in
        let all = all_less 0 (omega (arith, same)) in
        let free = nothing (stays judged is) in
        omega (arith, free, all)

    taken : new ≡ search_without now number → after ≤ to + without_one_steps now true number → (MarkStays now number → after ≡ to)
        → Paying s classes least from after (number + 1) new
    taken is cost nothing = record {
      gone = λ k l. ap (λ (t : Search). judges_in classes least (entry_at t.book.entries k)) is
          ∙ ap (λ (l : List Entry). judges_in classes least (entry_at l k)) withdrawn.set
          ∙ one_more_gone classes least es number (record { what = Judged call judgement; standing = false }) refl g.gone k l;
      cost =
          let same = ap (λ (t : Search). steps_left s.depth t.book.entries classes least) is in
          let before = g.cost in
          let paid = paid_for cost nothing (last_judgement (standing_answers left) call) refl in
          omega (arith, same, before, paid);
    }

  pub paying_more : 0 < number → (e : Entry) → entry_at es number ≡ Some e → IsOfCalls (length classes) e.what
      → new ≡ search_without_one now (judges_of classes least e) number → after ≤ to + without_one_steps now (judges_of classes least e) number
      → (MarkStays now number → after ≡ to) → Paying s classes least from after (number + 1) new
  paying_more first e at named is cost nothing = by e.what e.standing at named is cost
    where
      by : (what : What) (b : Bool) → entry_at es number ≡ Some (record { what = what; standing = b }) → IsOfCalls (length classes) what
          → new ≡ search_without_one now (judges_of classes least (record { what = what; standing = b })) number
          → after ≤ to + without_one_steps now (judges_of classes least (record { what = what; standing = b })) number
          → Paying s classes least from after (number + 1) new
      by (Trusted routine) true at named is cost = passed_by (ap (judges_in classes least) at) is (omega (arith, cost))
      by (Trusted routine) false at named is cost = passed_by (ap (judges_in classes least) at) is (omega (arith, cost))
      by (Judged call judgement) false at named is cost = passed_by (ap (judges_in classes least) at) is (omega (arith, cost))
      by (Judged call judgement) true at named is cost = elim (eqb_tells (slice_index classes call) least) [
        | inl q ↦ taken call judgement at q.1 named first (is ∙ ap (λ b. search_without_one now b number) q.0)
            (let e = ap (λ b. without_one_steps now b number) q.0 in omega (arith, e, cost)) nothing
        | inr q ↦ passed_by (ap (judges_in classes least) at ∙ q.0) (is ∙ ap (λ b. search_without_one now b number) q.0)
            (let e = ap (λ b. without_one_steps now b number) q.0 in omega (arith, e, cost))
      ]
