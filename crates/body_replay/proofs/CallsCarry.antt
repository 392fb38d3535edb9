-- A call agrees with its own entry, and what it took it had looked at.
use Rattle.std.proofs.Common.{if◌then◌else◌, ◌+◌, ◌-◌, ◌<◌, ◌∙◌, ◌∷◌, ◌≡◌, ◌≤◌, [], ℕ, All, Bool, List, None, Option, Some, ap, arith, drop, false, fold}
use Rattle.std.proofs.Common.{is_some, length, map, max, nat_eq, refl, subst, suc, sym, take, true, zero}
use Rattle.std.proofs.lemmas.{Bool.Decides.nat_tests, List.Elements.All-cons, List.Elements.All-nil, Option.slice_get_within}
use Rattle.std.specs.{FinMap.get, List.cons_option, List.filter_map, List.range_with_len, List.slice_get, Option.option_map}
use Rattle.cell_value.specs.Effects.{asked_by, change_by, heap_end, is_shared, listed, looked_of, read_by, reads_of, seen_at, seen_by, shared, taken_of}
use Rattle.cell_value.specs.declared.{entries.Change.Change, entries.Seen.Seen, entries.Touch.Touch, values.Value.Value}
use Rattle.core_program.proofs.{ActsLeave.MayEnter, Effects.effect_is, Events.unmarked, OutcomesCompose.none_some, OutcomesCompose.some_same}
use Rattle.core_program.proofs.{RecordsStand.stands, RunsLeave.Inner, RunsLeave.call_leaves, RunsRecord.MadeBy, RunsRecord.Recorded, Ways.RanCall}
use Rattle.core_program.proofs.LawsOfRuns.{all_recorded, calls_sound, made}
use Rattle.core_program.proofs.Touches.{Fits, Serves, first_asked, first_read, or_later, seen_is}
use Rattle.core_program.specs.{Apply.apply, ProgramRows.ProgramRows, RunLaws.calls_in, State.IsSound, State.State, State.most_depth, WholeTables.WholeTables}
use Rattle.core_program.specs.Agree.{Agrees, EndedByItself, Shows, deepest}
use Rattle.core_program.specs.Run.{Call, Result, depth_enough, input_items, record_of}
use Rattle.body_replay.specs.Laws.{CallsCarryToThemselves}

-- ---- what the touches of a call show of its entry

-- what is shown first, up to the first change
module _ {A : Type 0} (o : Option Value) (a : ℕ) (by' : Touch → Option A) (first : List Touch → Option A) (none : first [] ≡ None)
    (next : (t : Touch) (w : List Touch) → first (t ∷ w) ≡ or_later (change_by a t) (by' t) (first w)) (P : A → Type 0)
    (one : (t : Touch) (x : A) → Fits o a t → by' t ≡ Some x → P x)
  where
    shown_first : (w : List Touch) (x : A) → Serves o a w → first w ≡ Some x → P x
    shown_first [] x h e = absurd (none_some (sym none ∙ e))
    shown_first (t ∷ w) x h e =
        by (λ c. shown_first w x (h.1 c)) (change_by a t) refl (by' t) refl (sym (next t w) ∙ e)
      where
        by : (change_by a t ≡ None → first w ≡ Some x → P x) → (c : Option Change) → change_by a t ≡ c → (r : Option A) → by' t ≡ r
            → or_later c r (first w) ≡ Some x → P x
        by k (Some c) q r s e = absurd (none_some e)
        by k None q (Some y) s e = one t x h.0 (s ∙ e)
        by k None q None s e = k q e

module _ (o : Option Value) (a : ℕ) where
  read_there : (t : Touch) (x : Value) → Fits o a t → read_by a t ≡ Some x → o ≡ Some x
  read_there (Touch.Read b v) x f e = at (nat_eq b a) refl e
    where
      at : (q : Bool) → nat_eq b a ≡ q → (if q then Some v else None) ≡ Some x → o ≡ Some x
      at true q e = f (grind (arith, nat_tests)) ∙ e
      at false q e = absurd (none_some e)
  read_there t x f e = absurd (none_some e)

  asked_there : (t : Touch) (x : Bool) → Fits o a t → asked_by a t ≡ Some x → is_some o ≡ x
  asked_there (Touch.Has b v) x f e = at (nat_eq b a) refl e
    where
      at : (q : Bool) → nat_eq b a ≡ q → (if q then Some v else None) ≡ Some x → is_some o ≡ x
      at true q e = f (grind (arith, nat_tests)) ∙ some_same e
      at false q e = absurd (none_some e)
  asked_there t x f e = absurd (none_some e)

  is_none : is_some o ≡ false → o ≡ None
  is_none e = by o e
    where
      by : (o : Option Value) → is_some o ≡ false → o ≡ None
      by None e = refl
      by (Some v) e = absurd (let z : true ≡ false = e in cc)

  -- what is seen of a cell that serves is how it is
  seen_shows : (w : List Touch) (s : Seen) → Serves o a w → seen_at a w ≡ Some s → Shows o s
  seen_shows w s h e = by (first_read a w) refl (first_asked a w) refl (sym (seen_is a w) ∙ e)
    where
      by : (r : Option Value) → first_read a w ≡ r → (b : Option Bool) → first_asked a w ≡ b → seen_by r b ≡ Some s → Shows o s
      by (Some v) p b q e = subst (Shows o) (some_same e)
          (shown_first o a (read_by a) (first_read a) refl (λ t w. refl) (λ x. o ≡ Some x) read_there w v h p)
      by None p (Some true) q e = subst (Shows o) (some_same e)
          (shown_first o a (asked_by a) (first_asked a) refl (λ t w. refl) (λ x. is_some o ≡ x) asked_there w true h q)
      by None p (Some false) q e = subst (Shows o) (some_same e)
          (is_none (shown_first o a (asked_by a) (first_asked a) refl (λ t w. refl) (λ x. is_some o ≡ x) asked_there w false h q))
      by None p None q e = absurd (none_some e)

-- what holds wherever a function gives something holds of all that is listed
one_holds : {X : Type 0} (P : ℕ × X → Type 0) (a : ℕ) (o : Option X) (xs : List (ℕ × X)) → ((x : X) → o ≡ Some x → P (a, x)) → All P xs
    → All P (cons_option (option_map (λ x. (a, x)) o) xs)
one_holds P a None xs h k = k
one_holds P a (Some x) xs h k = All-cons P (a, x) xs (h x refl) k

each_holds : {X : Type 0} (P : ℕ × X → Type 0) (f : ℕ → Option X) → ((a : ℕ) (x : X) → f a ≡ Some x → P (a, x)) → (n a : ℕ)
    → All P (filter_map (λ q. option_map (λ x. (q, x)) (f q)) (range_with_len a n))
each_holds P f h zero a = All-nil P
each_holds P f h (suc n) a = one_holds P a (f a) _ (h a) (each_holds P f h n (a + 1))

all_listed : {X : Type 0} (P : ℕ × X → Type 0) (f : ℕ → Option X) → ((a : ℕ) (x : X) → f a ≡ Some x → P (a, x)) → All P (listed f)
unfolding listed
all_listed P f h = each_holds P f h heap_end 0

-- ---- a call and its own entry

module _ (p : ProgramRows) {n f : ℕ} {args : List Value} {σ : State} {y : Result State Call} (ran : RanCall p n f args σ y) (s : IsSound σ) (m : MayEnter σ)
  where
    abbrev made_call : Call
    made_call = record_of f args σ y

    inner : Inner σ y
    inner = call_leaves p ran s m

    shows_entry : All (λ (addr, seen). Shows (get σ.cells addr) seen) (reads_of σ.top y.log)
    shows_entry = all_listed (λ (addr, seen). Shows (get σ.cells addr) seen) (shared σ.top (λ addr. seen_at addr y.log)) (λ a x e.
        by a (is_shared σ.top a) refl x e)
      where
        by : (a : ℕ) (b : Bool) → is_shared σ.top a ≡ b → (x : Seen) → (if b then seen_at a y.log else None) ≡ Some x → Shows (get σ.cells a) x
        by a true q x e = seen_shows (get σ.cells a) a y.log x (inner.leaves.shows a q) e
        by a false q x e = absurd (none_some e)

    itself : EndedByItself made_call.way → deepest made_call (unmarked y.events) ≤ most_depth → Agrees made_call (unmarked y.events) σ
    itself way deep = record {
      way = way;
      top = refl;
      fresh = λ h. refl;
      cells = shows_entry;
      items = λ k l. refl;
      steps = omega arith;
      calls = let a = inner.leaves.calls in let b = inner.leaves.sound.calls in omega (arith, a, b);
      depth = let a = m.depth in omega (arith, a, deep);
    }

    exit : apply made_call σ ≡ y.after
    exit = effect_is made_call σ y.after y.log (suc (length y.events)) s inner.leaves (record {
      base = refl;
      from = 0;
      to = 0;
      log = refl;
      steps = let a = inner.leaves.steps in omega (arith, a);
      calls = omega arith;
    })

module _ {p : ProgramRows} {c : Call} {cs : List Call} (h : MadeBy p c cs) where
  pub agrees_itself : EndedByItself c.way → deepest c (take c.below cs) ≤ most_depth → Agrees c (take c.below cs) c.entry
  agrees_itself =
      subst (λ (d : Call). EndedByItself d.way → deepest d (take c.below cs) ≤ most_depth → Agrees d (take c.below cs) c.entry) h.record'
      (subst (λ l. EndedByItself (record_of c.routine c.args c.entry h.result).way → deepest (record_of c.routine c.args c.entry h.result) l ≤ most_depth
      → Agrees (record_of c.routine c.args c.entry h.result) l c.entry) h.calls (itself p h.ran h.sound h.limits))

  pub own_exit : apply c c.entry ≡ c.exit
  own_exit = subst (λ (d : Call). apply d c.entry ≡ d.exit) h.record' (exit p h.ran h.sound h.limits)

-- ---- the calls below stand no deeper than a call may

recorded_from : (p : ProgramRows) (xs : List ℕ) (n : ℕ) (cs : List Call) → Recorded p xs cs → Recorded p xs (drop n cs)
recorded_from p xs zero cs h = h
recorded_from p xs (suc n) [] h = tt
recorded_from p xs (suc n) (c ∷ cs) h = recorded_from p xs n cs h.2

greater : (a b n : ℕ) → a ≤ n → b ≤ n → max a b ≤ n
greater a b n k l = omega (arith, k, l)

shallow_all : (p : ProgramRows) (xs : List ℕ) (m n : ℕ) (cs : List Call) → Recorded p xs cs → m ≤ most_depth
    → fold max m (map (λ d. d.depth) (take n cs)) ≤ most_depth
shallow_all p xs m zero cs h l = l
shallow_all p xs m (suc n) [] h l = l
shallow_all p xs m (suc n) (c ∷ cs) h l =
    let is : c.entry.depth ≡ c.depth = ap (λ (d : Call). d.depth) h.0.record' in
    let own = h.0.limits.depth in
    shallow_all p xs (max m c.depth) n cs h.2 (greater m c.depth most_depth l (omega (arith, is, own)))

pub shallow : (p : ProgramRows) (xs : List ℕ) (c : Call) (k : ℕ) (cs : List Call) → Recorded p xs cs → MadeBy p c (drop k cs)
    → deepest c (take c.below (drop k cs)) ≤ most_depth
shallow p xs c k cs h made =
    let is : c.entry.depth ≡ c.depth = ap (λ (d : Call). d.depth) made.record' in
    let own = made.limits.depth in
    shallow_all p xs c.depth c.below (drop k cs) (recorded_from p xs k cs h) (omega (arith, is, own))

pub carry_to_themselves : CallsCarryToThemselves
carry_to_themselves p input budget r e number c at way =
    let h = made p input budget r e number c at in
    (agrees_itself h way (shallow p (input_items input) c (number + 1) (calls_in r) (all_recorded p input budget r e) h), own_exit h)

-- ---- what it took it had looked at

taken_short : (n : ℕ) (xs : List ℕ) → length (take n xs) ≤ n
taken_short zero xs = omega arith
taken_short (suc n) [] = omega arith
taken_short (suc n) (x ∷ xs) = let a = taken_short n xs in omega (arith, a)

taken_long : (k n : ℕ) (xs : List ℕ) → k ≤ n → k ≤ length xs → k ≤ length (take n xs)
taken_long k zero xs l m = omega (arith, l)
taken_long k (suc n) [] l m = omega (arith, m)
taken_long zero (suc n) (x ∷ xs) l m = omega arith
taken_long (suc k) (suc n) (x ∷ xs) l m = let a = taken_long k n xs (omega (arith, l)) (omega (arith, m)) in omega (arith, a)

get_among : (n k : ℕ) (xs : List ℕ) → k < n → slice_get (take n xs) k ≡ slice_get xs k
get_among zero k xs l = absurd (omega (arith, l))
get_among (suc n) k [] l = refl
get_among (suc n) zero (x ∷ xs) l = refl
get_among (suc n) (suc k) (x ∷ xs) l = get_among n k xs (omega (arith, l))

-- An input that ends after the last item that a call looked at agrees with the call, and so the call from there ends
-- within it.
pub took_what_it_saw : {p : ProgramRows} {c : Call} {cs : List Call} → WholeTables p → MadeBy p c cs → Agrees c (take c.below cs) c.entry
    → taken_of c.log ≤ looked_of c.entry.place c.log
took_what_it_saw {p = p} {c = c} {cs = cs} W h a =
    let looked = looked_of c.entry.place c.log in
    let s = h.sound in
    let σ : State = record c.entry { items = take (c.entry.place + looked) c.entry.items } in
    let sound : IsSound σ = record {
      stack = s.stack;
      above_stack = s.above_stack;
      above_heap = s.above_heap;
      stack_fits = s.stack_fits;
      heap_begins = s.heap_begins;
      heap_fits = s.heap_fits;
      input = taken_long c.entry.place (c.entry.place + looked) c.entry.items (omega arith) s.input;
      calls = s.calls;
      depth = s.depth;
    } in
    let agrees : Agrees c (take c.below cs) σ = record {
      way = a.way;
      top = a.top;
      fresh = a.fresh;
      cells = a.cells;
      items = λ k l. get_among (c.entry.place + looked) (c.entry.place + k) c.entry.items (omega (arith, l));
      steps = a.steps;
      calls = a.calls;
      depth = a.depth;
    } in
    let deep : depth_enough p σ.steps ≤ depth_enough p σ.steps = omega arith in
    let stand = stands p W c cs h σ sound agrees (depth_enough p σ.steps) deep in
    let after = calls_sound p (depth_enough p σ.steps) c.routine c.args σ stand.run sound h.limits.calls h.limits.depth stand.is in
    let within = subst (λ (τ : State). τ.place ≤ length τ.items) stand.after after.input in
    let short = taken_short (c.entry.place + looked) c.entry.items in
    omega (arith, within, short)

no_item : (xs : List ℕ) (k : ℕ) → k < length xs → slice_get xs k ≡ None → ⊥
no_item [] k l e = omega (arith, l)
no_item (x ∷ xs) zero l e = none_some (sym e)
no_item (x ∷ xs) (suc k) l e = no_item xs k (omega (arith, l)) e

-- so a state that agrees with the call has the items that the call takes
pub has_the_items : {c : Call} {below : List Call} {σ : State} → Agrees c below σ → taken_of c.log ≤ looked_of c.entry.place c.log
    → c.entry.place + taken_of c.log ≤ length c.entry.items → 0 < taken_of c.log → σ.place + taken_of c.log ≤ length σ.items
has_the_items {c = c} {σ = σ} a saw fits some =
    let k = taken_of c.log - 1 in
    let same = a.items k (omega (arith, saw, some)) in
    by (slice_get σ.items (σ.place + k)) refl same
  where
    by : (o : Option ℕ) → slice_get σ.items (σ.place + (taken_of c.log - 1)) ≡ o
        → slice_get σ.items (σ.place + (taken_of c.log - 1)) ≡ slice_get c.entry.items (c.entry.place + (taken_of c.log - 1))
        → σ.place + taken_of c.log ≤ length σ.items
    by (Some x) e same = let l = slice_get_within σ.items (σ.place + (taken_of c.log - 1)) x e in omega (arith, l, some)
    by None e same = absurd (no_item c.entry.items (c.entry.place + (taken_of c.log - 1)) (omega (arith, fits, some)) (sym same ∙ e))
