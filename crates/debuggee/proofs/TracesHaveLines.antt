-- A trace has a line for each event, and the calls in it are those of the run, of routines that are there.
use Rattle.std.proofs.Common.{◌++◌, ◌+◌, ◌<◌, ◌∙◌, ◌∷◌, ◌≡◌, ◌≤◌, [], ℕ, All, List, None, Option, Some, ap, arith, codes, decimal, drop, false, is_some, length}
use Rattle.std.proofs.Common.{map, refl, subst, suc, sym, take, true, zero}
use Rattle.std.{proofs.lemmas.List.Elements.All-weaker, specs.List.slice_get, specs.Option.IsSome}
use Rattle.pas_lexer.specs.Lexed.{Lexed}
use Rattle.core_program.proofs.{LawsOfRuns.body_is, LawsOfRuns.made, OutcomesCompose.none_some, OutcomesCompose.some_same}
use Rattle.core_program.specs.{Numbering.belows, Numbering.each_from, ProgramRows.ProgramRows, ProgramRows.routine_at, State.State, WholeTables.WholeTables}
use Rattle.core_program.specs.Replay.{ChildOf, Event, LineOf, Replaying, body}
use Rattle.core_program.specs.Run.{Call, Marked, Outcome, Result, depth_enough, run}
use Rattle.core_program.specs.RunLaws.{IsBody, IsMet, calls_in}
use Rattle.call_tree.specs.declared.records.Call as table
use Rattle.program_run.specs.{History.recording_of, Table.table_row}
use Rattle.body_replay.specs.Replays.{kept_event, work_at, work_of}
use Rattle.question_text.specs.{Cards.Recorded, Lines.call_text, Traces.child_line, Traces.event_line}
use Rattle.debuggee.proofs.{CallsAreNumbered.calls_kept, CellsHaveNames.recorded_of, FramesFollow.frames_of_run}
use Rattle.debuggee.specs.{Execution.Supply, Execution.execution_of, LeftOut.IsLine, LeftOut.MadeCall, LeftOut.NamesCall}

get_taken : {A : Type 0} (n : ℕ) (xs : List A) (i : ℕ) (x : A) → slice_get (take n xs) i ≡ Some x → slice_get xs i ≡ Some x
get_taken zero xs i x e = absurd (none_some e)
get_taken (suc n) [] i x e = e
get_taken (suc n) (y ∷ ys) zero x e = e
get_taken (suc n) (y ∷ ys) (suc i) x e = get_taken n ys i x e

get_dropped : {A : Type 0} (n : ℕ) (xs : List A) (i : ℕ) (x : A) → slice_get (drop n xs) i ≡ Some x → slice_get xs (n + i) ≡ Some x
get_dropped zero xs i x e = ap (slice_get xs) (let z : 0 + i ≡ i = omega arith in z) ∙ e
get_dropped (suc n) [] i x e = absurd (none_some e)
get_dropped (suc n) (y ∷ ys) i x e = ap (slice_get (y ∷ ys)) (let z : suc n + i ≡ suc (n + i) = omega arith in z) ∙ get_dropped n ys i x e

row_there : (f : ℕ → Marked Call → table.Call) (k : ℕ) (ms : List (Marked Call)) (j : ℕ) (c : Call) → slice_get (map (λ e. e.event) ms) j ≡ Some c
    → IsSome (slice_get (each_from f k ms) j)
row_there f k [] j c e = absurd (none_some e)
row_there f k (m ∷ ms) zero c e = refl
row_there f k (m ∷ ms) (suc j) c e = row_there f (suc k) ms j c e

-- what is told of an event
abbrev IsTold : Recorded → Event → Type 0
IsTold r e = IsLine (event_line r (kept_event e)) × NamesCall r (kept_event e)

-- the routine of each call is there
abbrev HaveRoutines : Recorded → Type 0
HaveRoutines r = (k : ℕ) (c : table.Call) → slice_get r.calls k ≡ Some c → IsSome (routine_at r.program c.routine)

child_told : (r : Recorded) → HaveRoutines r → (k : ℕ) (o : Option table.Call) → slice_get r.calls k ≡ o → IsSome o → IsLine (child_line r.program k o)
    × MadeCall r k
child_told r have k None e h = absurd (let z : false ≡ true = h in cc)
child_told r have k (Some c) e h =
    (record { inner = call_text r.program k c; is = refl }, record { call = c; is = e; routine = have k c e })

same_least : (n : ℕ) → n ≤ n
same_least n = omega arith

there : {A : Type 0} (xs : List A) (k : ℕ) → k < length xs → (x : A) × (slice_get xs k ≡ Some x)
there [] k l = absurd (omega (arith, l))
there (x ∷ xs) zero l = (x, refl)
there (x ∷ xs) (suc k) l = there xs k (omega (arith, l))

length_each : (f : ℕ → Marked Call → table.Call) (k : ℕ) (ms : List (Marked Call)) → length (each_from f k ms) ≡ length (map (λ (e : Marked Call). e.event) ms)
length_each f k [] = refl
length_each f k (m ∷ ms) = ap suc (length_each f (suc k) ms)

module _ (p : ProgramRows) (whole : WholeTables p) (tokens : ℕ) (input : List ℕ) (budget number : ℕ) (work : Result Replaying Event) where
  of_event : (r : Result State Call) (c : Call) (calls : List table.Call) (kept : Recorded) → kept.calls ≡ calls
      → calls ≡ each_from (table_row (belows r.events)) 0 r.events → HaveRoutines kept
      → (e : Event) → IsMet (number + 1) (take c.below (drop (number + 1) (calls_in r))) e
      → IsTold kept e
  of_event r c calls kept k q have (LineOf line) h = (record { inner = codes "line " ++ decimal line; is = refl }, tt)
  of_event r c calls kept k q have (ChildOf n before) h =
      let i = h.0 in
      let stands : slice_get (calls_in r) (number + 1 + i) ≡ Some h.1 =
      get_dropped (number + 1) (calls_in r) i h.1 (get_taken c.below (drop (number + 1) (calls_in r)) i h.1 h.3) in
      child_told kept have n (slice_get kept.calls n) refl
      (subst (λ cs. IsSome (slice_get cs n)) (sym (k ∙ q))
      (subst (λ n. IsSome (slice_get (each_from (table_row (belows r.events)) 0 r.events) n)) (sym h.2)
      (row_there (table_row (belows r.events)) 0 r.events (number + 1 + i) h.1 stands)))

  have_routines : HaveRoutines (recorded_of p tokens input budget)
  have_routines k c e = ap is_some (frames_of_run p input budget k c e).has

  by_outcome : (x : Outcome) → run p input budget ≡ x → number < length (recording_of p x).calls → work_of p x number ≡ Some work
      → All (λ e. IsTold (recorded_of p tokens input budget) e.event) work.events
  by_outcome None q l w = absurd (omega (arith, l))
  by_outcome (Some r) q l w =
      let found = there (calls_in r) number (let n = length_each (table_row (belows r.events)) 0 r.events in omega (arith, l, n)) in
      let c = found.0 in
      let below = take c.below (drop (number + 1) (calls_in r)) in
      let b : IsBody number c below (body p (depth_enough p c.entry.steps) c number below) =
      body_is p whole number c _ (made p input budget r q number c found.1) (depth_enough p c.entry.steps) (same_least (depth_enough p c.entry.steps)) in
      let is : b.run ≡ work = some_same (sym b.is ∙ ap (work_at p (calls_in r) number) (sym found.1) ∙ w) in
      subst (λ (z : Result Replaying Event). All (λ e. IsTold (recorded_of p tokens input budget) e.event) z.events) is
      (All-weaker (λ (e : Marked Event). IsMet (number + 1) below e.event)
      (λ (e : Marked Event). IsTold (recorded_of p tokens input budget) e.event)
      (λ e h. of_event r c (recorded_of p tokens input budget).calls (recorded_of p tokens input budget) refl
      (ap (λ x. (recording_of p x).calls) q) have_routines e.event h)
      b.run.events b.met)

traces_told : (p : ProgramRows) → WholeTables p → (tokens : ℕ) (input : List ℕ) (budget number : ℕ) (work : Result Replaying Event)
    → number < length (recorded_of p tokens input budget).calls → work_of p (run p input budget) number ≡ Some work
    → All (λ e. IsTold (recorded_of p tokens input budget) e.event) work.events
traces_told p whole tokens input budget number work l w = by_outcome p whole tokens input budget number work (run p input budget) refl l w

pub traces_have_lines : (p : ProgramRows) → WholeTables p → (t : Lexed) (s : Supply) (number : ℕ) (work : Result Replaying Event)
    → number < length (execution_of t p s).recorded.calls → work_of p (run p s.input s.budget) number ≡ Some work
    → All (λ e. IsTold (execution_of t p s).recorded e.event) work.events
traces_have_lines p whole t s number work =
    subst (λ calls. number < length calls → work_of p (run p s.input s.budget) number ≡ Some work
    → All (λ e. IsTold (record (recorded_of p (length t.tokens) s.input s.budget) { calls = calls }) e.event) work.events)
    (calls_kept p s (recording_of p (run p s.input s.budget)) refl)
    (traces_told p whole (length t.tokens) s.input s.budget number work)
