-- The laws: the work of each call of each run stays the same, as far as one output goes, and calls of which something is
-- used are met alike.
use Rattle.std.proofs.Common.{◌++◌, ◌+◌, ◌<◌, ◌∙◌, ◌∷◌, ◌≡◌, ◌≤◌, [], ℕ, All, List, Some, ap, append-nil, arith, drop, length, refl, subst, suc, sym, take}
use Rattle.std.{proofs.Common.zero, specs.FinMap.get, specs.List.slice_get, specs.List.slice_index_or}
use Rattle.core_program.proofs.{CallsOfRunsNest.forest_of, Events.later_events, Events.unmarked, OutcomesCompose.some_same, Ways.RanCall, Ways.call_at}
use Rattle.core_program.specs.{Numbering.each_from, ProgramRows.ProgramRows, ProgramRows.routine_at, WholeTables.WholeTables}
use Rattle.core_program.specs.Replay.{Event, LineOf, Replayed, body, in_replaying, on_state, replay_of}
use Rattle.core_program.specs.Run.{Call, Marked, after_all, at_work, call_closed, depth_enough, framed_run, later_by, opened, result_in, way_out}
use Rattle.output_slice.proofs.{BackwardIsWhole.cut_rises, ChildrenOfPieces.child_of, ChildrenOfPieces.holds, CutsAreWalks.cut_called, CutsAreWalks.cut_later}
use Rattle.output_slice.proofs.{MarksOfRuns.MadeAt, MarksOfRuns.made_at, UsedBackward.only_self}
use Rattle.output_slice.proofs.NeededIsUsed.{Holds, alters_same, fit_of, is_bytes, used_met_alike, wanted_cell, wanted_is_need}
use Rattle.output_slice.proofs.WalksAlike.{Each, Finished, Fit, call_finished, pieces_called, tells_called}
use Rattle.output_slice.specs.{Backward.only, declared.outputs.Output.Output, declared.outputs.Output.TheVariants.Cell}
use Rattle.output_slice.specs.Kept.{Alters, IsKept, IsMetAlike, Kept, MetAlike, events_of, told_of}
use Rattle.output_slice.specs.Pieces.{OfChild, Piece, Stands, cut, pieces_of}

each_same : (k : ℕ) (cs : List Call) → each_from (λ n c. c) k cs ≡ cs
each_same k [] = refl
each_same k (c ∷ cs) = ap (λ l. c ∷ l) (each_same (suc k) cs)

take_events : (n : ℕ) (es : List (Marked Call)) → take n (unmarked es) ≡ unmarked (take n es)
take_events zero es = refl
take_events (suc n) [] = refl
take_events (suc n) (e ∷ es) = ap (λ l. e.event ∷ l) (take_events n es)

drop_events : (n : ℕ) (es : List (Marked Call)) → drop n (unmarked es) ≡ unmarked (drop n es)
drop_events zero es = refl
drop_events (suc n) [] = refl
drop_events (suc n) (e ∷ es) = drop_events n es

all_each : (P : Event → Type 0) (es : List (Marked Event)) → Each P es → All (λ e. P e.event) es
all_each P [] h = λ k d l. absurd (omega arith)
all_each P (e ∷ es) h = λ k d l. by k d l (all_each P es h.1)
  where
    by : (k : ℕ) (d : Marked Event) → k < length (e ∷ es) → All (λ e. P e.event) es → P (slice_index_or (e ∷ es) k d).event
    by zero d l g = h.0
    by (suc k) d l g = g k d (omega arith)

module _ (p : ProgramRows) (W : WholeTables p) (k : ℕ) (e : Marked Call) (es : List (Marked Call)) (h : MadeAt p e es) where
  abbrev pieces : List Piece
  pieces = cut e.mark (k + 1) 0 e.event.log (take e.event.below es)

  -- the pieces of the call, by its mark and those of the calls below it
  pieces_are : {n : ℕ} → (g : RanCall p n e.event.routine e.event.args e.event.entry h.result)
      → cut e.mark (k + 1) 0 e.event.log (take e.event.below es) ≡ pieces_called g (k + 1)
  pieces_are g = ap (cut e.mark (k + 1) 0 e.event.log) h.calls
      ∙ ap (λ (c : Call). cut e.mark (k + 1) 0 c.log (later_by e.mark h.result.events)) (sym h.record')
      ∙ ap (λ m. cut m (k + 1) 0 h.result.log (later_by e.mark h.result.events)) (let q : e.mark ≡ e.mark + 0 = omega arith in q)
      ∙ cut_later e.mark 0 (k + 1) 0 h.result.log h.result.events
      ∙ cut_called p g (k + 1)

  calls_are : take e.event.below (unmarked es) ≡ unmarked h.result.events
  calls_are = take_events e.event.below es ∙ ap unmarked h.calls ∙ later_events e.mark h.result.events

  abbrev work : ℕ → List Call → Replayed
  work depth cs = body p depth e.event k cs

  again : (o : Output) (alter : ℕ → Call → Call) (P : Event → Type 0) (lines : (line : ℕ) → P (LineOf line)) {n : ℕ}
      (g : RanCall p n e.event.routine e.event.args e.event.entry h.result)
      → Fit (wanted_cell o) (wanted_is_need o) (is_bytes o) alter P lines (pieces_called g (k + 1)) []
      → Finished (wanted_cell o) (wanted_is_need o) (is_bytes o) alter P lines p h.result (tells_called g (k + 1))
      (work n (each_from alter (k + 1) (take e.event.below (unmarked es))))
  again o alter P lines {n = n} g f =
      let a = call_finished (wanted_cell o) (wanted_is_need o) (is_bytes o) alter P lines p g h.sound h.limits (k + 1) [] f in
      let d : e.event.entry.depth ≡ e.event.depth = ap (λ (c : Call). c.depth) h.record' in
      let l : each_from alter (k + 1) (unmarked h.result.events) ++ [] ≡ each_from alter (k + 1) (take e.event.below (unmarked es)) =
      append-nil (each_from alter (k + 1) (unmarked h.result.events)) ∙ ap (each_from alter (k + 1)) (sym calls_are) in
      let F : Replayed → Type 0 =
      Finished (wanted_cell o) (wanted_is_need o) (is_bytes o) alter P lines p h.result (tells_called g (k + 1)) in
      subst (λ m. F (after_all (on_state (call_closed m)) (framed_run in_replaying (at_work p (replay_of p n) e.event.routine) e.event.args
      (record { state = opened e.event.entry; number = k + 1; calls = each_from alter (k + 1) (take e.event.below (unmarked es)) })
      (routine_at p e.event.routine)))) d
      (subst (λ l. F (after_all (on_state (call_closed e.event.entry.depth))
      (framed_run in_replaying (at_work p (replay_of p n) e.event.routine) e.event.args
      (record { state = opened e.event.entry; number = k + 1; calls = l }) (routine_at p e.event.routine)))) l a)

  module _ (o : Output) (alter : ℕ → Call → Call) (a : Alters pieces o alter) (depth : ℕ) (deep : depth_enough p e.event.entry.steps ≤ depth) where
    ran : RanCall p depth e.event.routine e.event.args e.event.entry h.result
    ran = call_at W h.ran depth deep

    -- with altered records, where this is to hold of each event
    altered : (P : Event → Type 0) (lines : (line : ℕ) → P (LineOf line)) → Holds pieces o P alter
        → Finished (wanted_cell o) (wanted_is_need o) (is_bytes o) alter P lines p h.result (tells_called ran (k + 1))
        (work depth (each_from alter (k + 1) (take e.event.below (unmarked es))))
    altered P lines each = again o alter P lines ran
        (subst (λ ps. Fit (wanted_cell o) (wanted_is_need o) (is_bytes o) alter P lines ps []) (pieces_are ran)
        (fit_of pieces o P alter each a lines))

    plain : Finished (wanted_cell o) (wanted_is_need o) (is_bytes o) (λ n c. c) (λ e. Unit {0}) (λ l. tt) p h.result (tells_called ran (k + 1))
        (work depth (each_from (λ n c. c) (k + 1) (take e.event.below (unmarked es))))
    plain = again o (λ n c. c) (λ e. Unit {0}) (λ l. tt) ran
        (subst (λ ps. Fit (wanted_cell o) (wanted_is_need o) (is_bytes o) (λ n c. c) (λ e. Unit {0}) (λ l. tt) ps []) (pieces_are ran)
        (fit_of pieces o (λ e. Unit {0}) (λ n c. c) (λ before n c u q m out i. tt) (alters_same pieces o) (λ l. tt)))

    kept_at : IsKept o e.event (work depth (take e.event.below (unmarked es))) (work depth (each_from alter (k + 1) (take e.event.below (unmarked es))))
    kept_at =
        let new = altered (λ e. Unit {0}) (λ l. tt) (λ before n c u q m out i. tt) in
        let old = plain in
        record {
          run = new.run;
          is = new.is;
          way = ap way_out new.end ∙ ap (λ (c : Call). c.way) h.record';
          result = ap result_in new.end ∙ ap (λ (c : Call). c.result) h.record';
          events = ap told_of new.is ∙ new.events ∙ sym (ap told_of old.is ∙ old.events)
              ∙ ap (λ l. told_of (work depth l)) (each_same (k + 1) (take e.event.below (unmarked es)));
          cell = λ x q. new.cell x (ap (λ o. only o (Cell x)) q ∙ only_self (Cell x)) ∙ ap (λ (c : Call). get c.exit.cells x) h.record';
          bytes = λ q. new.bytes (ap is_bytes q) ∙ ap (λ (c : Call). c.exit.output) h.record';
        }

    met_at : (P : Event → Type 0) (lines : (line : ℕ) → P (LineOf line)) → Holds pieces o P alter
        → All (λ e. P e.event) (events_of (work depth (each_from alter (k + 1) (take e.event.below (unmarked es)))))
    met_at P lines each =
        let new = altered P lines each in
        subst (λ x. All (λ e. P e.event) (events_of x)) (sym new.is) (all_each P new.run.events new.each)

pub kept : Kept
kept p W input budget r q number e s o alter a depth deep =
    subst (λ l. IsKept o e.event (body p depth e.event number (take e.event.below l))
    (body p depth e.event number (each_from alter (number + 1) (take e.event.below l)))) (sym (drop_events (number + 1) r.events))
    (kept_at p W number e (drop (number + 1) r.events) (made_at p input budget r q number e s) o alter a depth deep)

pub met_alike : MetAlike
met_alike p W input budget r q number e s o alter a depth deep =
    let ps = pieces_of r number e in
    subst (λ l. All (λ d. IsMetAlike r ps o d.event) (events_of (body p depth e.event number (each_from alter (number + 1) (take e.event.below l)))))
    (sym (drop_events (number + 1) r.events))
    (met_at p W number e (drop (number + 1) r.events) (made_at p input budget r q number e s) o alter a depth deep (IsMetAlike r ps o) (λ l. tt)
    (used_met_alike r (number + 1) ps o (cut_rises e.mark (number + 1) 0 e.event.log (take e.event.below (drop (number + 1) r.events))) same))
  where
    same : (n : ℕ) (c : Call) (before : List Piece) → Stands (pieces_of r number e) (OfChild n c) before → (d : Marked Call)
        → slice_get r.events n ≡ Some d → d.event ≡ c
    same n c before i d t =
        let child = child_of r e.mark number e.event.log e n c (forest_of p input budget r q) s (holds (pieces_of r number e) n c before i) in
        ap (λ (d : Marked Call). d.event) (some_same (sym t ∙ child.is)) ∙ child.event
