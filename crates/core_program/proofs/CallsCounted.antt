-- What each call of a run did can be counted by its part of the log.
use Rattle.std.proofs.Common.{if◌then◌else◌, ◌&&◌, ◌++◌, ◌+◌, ◌-◌, ◌<◌, ◌==◌, ◌∙◌, ◌∷◌, ◌≡◌, ◌≤◌, [], ℕ, All, Bool, List, Some, ap, arith, drop, false, length}
use Rattle.std.proofs.Common.{length-append, refl, slice_range, subst, sym, take, true}
use Rattle.std.proofs.lemmas.List.{drop_at, take_at, Elements.All-cons, Elements.All-head, Elements.All-nil, Elements.All-tail}
use Rattle.cell_value.specs.{Effects.made_of, Effects.taken_of, declared.entries.Touch.Touch}
use Rattle.core_program.proofs.{CallsOfRunsNest.Stand, CallsOfRunsNest.stand_of, Events.unmarked, RunsLeave.call_leaves, RunsRecord.MadeBy, RunsRecord.Recorded}
use Rattle.core_program.proofs.LawsOfRuns.{all_recorded, made_countable}
use Rattle.core_program.specs.{Numbering.StandsAt, ProgramRows.ProgramRows, RunLaws.IsCounted, RunLaws.most_bytes, State.State}
use Rattle.core_program.specs.Run.{Call, Marked, Result, input_items, run}

-- ---- the items of an input

few_items : (input : List ℕ) → length (input_items input) ≤ length input + 1
few_items [] = omega arith
few_items (b ∷ []) = by (b == 10)
  where
    by : (t : Bool) → length (if t then 256 ∷ [] else b ∷ 256 ∷ []) ≤ 2
    by true = omega arith
    by false = omega arith
few_items (b ∷ c ∷ bs) = by (b == 10) ((b == 13) && (c == 10)) (few_items (c ∷ bs))
  where
    by : (t u : Bool) → length (input_items (c ∷ bs)) ≤ length (c ∷ bs) + 1
        → length (if t then 256 ∷ input_items (c ∷ bs) else if u then input_items (c ∷ bs) else b ∷ input_items (c ∷ bs)) ≤ length (b ∷ c ∷ bs) + 1
    by true u h = omega (arith, h)
    by false true h = omega (arith, h)
    by false false h = omega (arith, h)

-- ---- parts of a log

part_ends : (log : List Touch) (mark : ℕ) (w : List Touch) → StandsAt log mark w → mark + length w ≤ length log
part_ends log mark w h =
    let e : length log ≡ length h.before + length (w ++ h.later) = ap length h.is ∙ length-append h.before (w ++ h.later) in
    omega (arith, e, h.at, length-append w h.later)

part_is : (log : List Touch) (mark : ℕ) (w : List Touch) → StandsAt log mark w → slice_range log mark (mark + length w) ≡ w
part_is log mark w h =
    let n : mark + length w - mark ≡ length w = omega arith in
    ap (λ n. take n (drop mark log)) n ∙ ap (λ l. take (length w) (drop mark l)) h.is
    ∙ ap (take (length w)) (drop_at h.before (w ++ h.later) mark h.at) ∙ take_at w h.later (length w) refl

-- ---- calls

module _ (p : ProgramRows) (xs : List ℕ) (log : List Touch) (few : length xs < 4294967295) where
  counted : (c : Marked Call) (cs : List Call) → StandsAt log c.mark c.event.log → MadeBy p c.event cs → c.event.entry.items ≡ xs → IsCounted xs log c
  counted c cs at h items =
      let l = (call_leaves p h.ran h.sound h.limits).leaves in
      let same : h.result.log ≡ c.event.log = ap (λ (c : Call). c.log) h.record' in
      let made : made_of h.result.log ≤ 1048576 = omega (arith, l.fresh, l.sound.heap_fits) in
      let inside : h.result.after.place ≤ length xs = subst (λ ys. h.result.after.place ≤ length ys) (l.items ∙ items) l.sound.input in
      let taken : c.event.entry.place + taken_of h.result.log ≤ length xs = omega (arith, l.place, inside) in
      let made_here : made_of c.event.log ≤ 1048576 = subst (λ w. made_of w ≤ 1048576) same made in
      let taken_here : c.event.entry.place + taken_of c.event.log ≤ length xs =
      subst (λ w. c.event.entry.place + taken_of w ≤ length xs) same taken in
      record {
        in_log = part_ends log c.mark c.event.log at;
        part = part_is log c.mark c.event.log at;
        countable = made_countable p c.event cs h (subst (λ ys. length ys < 4294967295) (sym items) few);
        made_fits = omega (arith, made_here);
        taken_fits = omega (arith, taken_here, few);
        in_input = taken_here;
      }

  each_counted : (es : List (Marked Call)) → Stand log es → Recorded p xs (unmarked es) → All (IsCounted xs log) es
  each_counted [] at h = All-nil (IsCounted xs log)
  each_counted (e ∷ es) at h =
      let stands : StandsAt log e.mark e.event.log = All-head (λ c. StandsAt log c.mark c.event.log) e es at in
      All-cons (IsCounted xs log) e es (counted e (unmarked es) stands h.0 h.1)
      (each_counted es (All-tail (λ c. StandsAt log c.mark c.event.log) e es at) h.2)

pub calls_counted : (p : ProgramRows) (input : List ℕ) (budget : ℕ) (r : Result State Call) → length input ≤ most_bytes → run p input budget ≡ Some r
    → All (IsCounted (input_items input) r.log) r.events
calls_counted p input budget r few e =
    each_counted p (input_items input) r.log (omega (arith, few, few_items input)) r.events (stand_of p input budget r e) (all_recorded p input budget r e)
