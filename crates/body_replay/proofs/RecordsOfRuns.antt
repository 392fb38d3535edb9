-- What the table of a run tells of one of its calls.
use Rattle.std.proofs.Common.{◌+◌, ◌<◌, ◌∙◌, ◌∷◌, ◌≡◌, ◌≤◌, [], ℕ, IsSome, List, None, Some, ap, arith, drop, length, refl, slice_index, subst, suc, sym, take}
use Rattle.std.proofs.{Common.zero, lemmas.List.take_at, lemmas.Option.slice_get-map}
use Rattle.std.specs.{List.All, List.slice_get, Option.option_map}
use Rattle.cell_value.specs.Effects.{made_of, taken_of}
use Rattle.core_program.proofs.{CallsOfRunsNest.stand_of, LawsOfRuns.begins_sound, LawsOfRuns.made, LawsOfRuns.runs_items, OutcomesCompose.none_some}
use Rattle.core_program.proofs.{OutcomesCompose.some_same, RunAtAnyDepth.runs, RunsLeave.call_leaves, RunsRecord.MadeBy, Ways.run_gives}
use Rattle.core_program.specs.{Numbering.StandsAt, Numbering.belows, Numbering.depth_of, Numbering.parent_of, ProgramRows.ProgramRows, Replay.body}
use Rattle.core_program.specs.{RunLaws.MeetsItems, RunLaws.calls_in, RunLaws.most_bytes, State.State, WholeTables.WholeTables}
use Rattle.core_program.specs.Run.{Call, Marked, Outcome, Result, block, depth_enough, input_items, run, start}
use Rattle.call_tree.specs.Told.{IsTold}
use Rattle.call_tree.specs.declared.records.Call as table
use Rattle.program_run.proofs.{CallsTold.calls_told, RowsInParts.rows_whole}
use Rattle.program_run.proofs.RowsTellTheStates.{AllTell, Tells, each_at, ran_told, tells_at}
use Rattle.program_run.specs.{Table.row_with, Table.table_of, Table.table_row, Tower.first_spot, Tower.rows_at, declared.history.History.History}
use Rattle.program_run.specs.History.{IsOfRun, log_of, output_of, recording_of}
use Rattle.body_replay.specs.{Records.HasRoomFor, Records.IsRecordOf, Replays.before_of, Replays.work_at, Replays.work_in, Replays.work_of}

below_at : (ms : List (Marked Call)) (k : ℕ) (m : Marked Call) → slice_get ms k ≡ Some m → slice_index (belows ms) k ≡ m.event.below
below_at [] k m e = absurd (none_some e)
below_at (n ∷ ms) zero m e = ap (λ (x : Marked Call). x.event.below) (some_same e)
below_at (n ∷ ms) (suc k) m e = below_at ms k m e

stands_for : {X : Type 0} (P : X → Type 0) (xs : List X) (k : ℕ) (x : X) → All P xs → slice_get xs k ≡ Some x → P x
stands_for P [] k x h e = absurd (none_some e)
stands_for P (y ∷ ys) zero x h e = subst P (some_same e) (h 0 y (omega arith))
stands_for P (y ∷ ys) (suc k) x h e = stands_for P ys k x (λ j d l. h (suc j) d (omega (arith, l))) e

-- what holds of all that is kept of a run of a program
pub record Kept (p : ProgramRows) (h : History) : Type 0 where
  pub whole : WholeTables p
  pub budget : h.budget ≤ 4000000
  pub told : (number : ℕ) (row : table.Call) → slice_get h.calls.calls number ≡ Some row → IsTold h.log h.input row

pub kept : {p : ProgramRows} {input : List ℕ} {h : History} → WholeTables p → length input ≤ most_bytes → IsOfRun p input h.budget h → h.budget ≤ 4000000
    → Kept p h
kept {p = p} {input = input} {h = h} W few g budget = record { whole = W; budget = budget; told = calls_told p input h.budget h few g }

-- a run, and what its history keeps of it
pub record RunOf (p : ProgramRows) (input : List ℕ) (h : History) : Type 0 where
  pub result : Result State Call
  pub is : run p input h.budget ≡ Some result
  pub calls : h.calls.calls ≡ table_of result.events
  pub log : h.log ≡ result.log
  pub output : h.output ≡ result.after.output
  pub items : h.input ≡ input_items input
  pub kept : Kept p h

pub run_of_history : {p : ProgramRows} {input : List ℕ} {h : History} → Kept p h → IsOfRun p input h.budget h → RunOf p input h
run_of_history {p = p} {input = input} {h = h} k g = by (run p input h.budget) refl (runs p k.whole input h.budget)
  where
    by : (x : Outcome) → run p input h.budget ≡ x → IsSome x → RunOf p input h
    by None e s = absurd (let z : ⊥ = cc in z)
    by (Some r) e s = record {
      result = r;
      is = e;
      calls = ap (λ c. c.calls) g.calls ∙ ap (λ x. (recording_of p x).calls) e;
      log = g.log ∙ ap log_of e;
      output = g.output ∙ ap output_of e;
      items = g.items;
      kept = k;
    }

-- a row is that of a call of this number among the calls of the run
pub record RowOf (p : ProgramRows) (h : History) (calls : List Call) (number : ℕ) (row : table.Call) : Type 0 where
  pub call : Call
  pub stands : slice_get calls number ≡ Some call
  pub recorded : IsRecordOf h.log number row call
  pub tells : Tells h.budget h.output row call
  pub told : IsTold h.log h.input row
  pub items : call.entry.items ≡ h.input
  pub made : MadeBy p call (drop (number + 1) calls)

module _ {p : ProgramRows} {input : List ℕ} {h : History} (g : RunOf p input h) where
  pub all_tell : AllTell h.budget h.output (table_of g.result.events) g.result.events
  all_tell =
      let ran = run_gives p (depth_enough p h.budget) block (start input h.budget) g.result g.is in
      let rows = rows_at first_spot g.result.events in
      subst (λ rows. AllTell h.budget h.output rows g.result.events) (rows_whole g.result.events)
      (subst (λ o. AllTell h.budget o rows g.result.events) (sym g.output) ((ran_told p ran (begins_sound input h.budget)).tell first_spot refl))

  pub row_of_run : (number : ℕ) (row : table.Call) → slice_get h.calls.calls number ≡ Some row → RowOf p h (calls_in g.result) number row
  row_of_run number row e =
      let ms = g.result.events in
      let x = each_at (table_row (belows ms)) 0 number ms row (ap (λ rows. slice_get rows number) (sym g.calls) ∙ e) in
      let m = x.element in
      let at : slice_get (calls_in g.result) number ≡ Some m.event = slice_get-map (λ e. e.event) ms number ∙ ap (option_map (λ e. e.event)) x.stands in
      let b = made p input h.budget g.result g.is number m.event at in
      record {
        call = m.event;
        stands = at;
        recorded = record {
          parent = parent_of (belows ms) number;
          depth = depth_of (belows ms) number;
          mark = m.mark;
          is = sym x.is ∙ ap (λ k. table_row (belows ms) k m) (let z : 0 + number ≡ number = omega arith in z)
              ∙ ap (λ b. row_with m.event (parent_of (belows ms) number) (depth_of (belows ms) number) (number + b) m.mark) (below_at ms number m x.stands);
          stands = subst (λ log. StandsAt log m.mark m.event.log) (sym g.log)
              (stands_for (λ c. StandsAt g.result.log c.mark c.event.log) ms number m (stand_of p input h.budget g.result g.is) x.stands);
          base = sym (ap (λ c. c.base) b.record');
        };
        tells = tells_at h.budget h.output (table_of ms) ms number row m all_tell (ap (λ rows. slice_get rows number) (sym g.calls) ∙ e) x.stands;
        told = g.kept.told number row e;
        items = (stands_for (MeetsItems (input_items input)) (calls_in g.result) number m.event (runs_items p input h.budget g.result g.is) at).before
            ∙ sym g.items;
        made = b;
      }

  -- where the call was entered, there is room for it
  pub room_for : {number : ℕ} {row : table.Call} (r : RowOf p h (calls_in g.result) number row) → length h.input < 4294967296
      → HasRoomFor r.call r.call.entry
  room_for r few =
      let y = r.made.result in
      let l = (call_leaves p r.made.ran r.made.sound r.made.limits).leaves in
      let made : made_of y.log ≡ made_of r.call.log = ap (λ (c : Call). made_of c.log) r.made.record' in
      let taken : taken_of y.log ≡ taken_of r.call.log = ap (λ (c : Call). taken_of c.log) r.made.record' in
      let below : length y.events ≡ r.call.below = ap (λ (c : Call). c.below) r.made.record' in
      let found = ap length r.items in
      record {
        fresh = let a = l.fresh in let b = l.sound.heap_fits in omega (arith, a, b, made);
        place = let a = l.place in let b = l.sound.input in let c = ap length l.items in omega (arith, a, b, c, taken, found, few);
        calls = let a = l.calls in let b = l.sound.calls in omega (arith, a, b, below);
      }

  -- the state before it, as it is kept
  pub before_is : {number : ℕ} {row : table.Call} (r : RowOf p h (calls_in g.result) number row) → before_of row h ≡ r.call.entry
  before_is {row = row} r =
      let q = r.recorded.is in
      let output : take row.entry.output h.output ≡ r.call.entry.output = ap (take row.entry.output) r.tells.given
      ∙ take_at r.call.entry.output r.tells.rest row.entry.output (sym (ap (λ x. x.entry.output) q)) in
      λ i. record {
        cells = (q i).entry.store;
        top = (q i).entry.top;
        fresh = (q i).entry.fresh;
        items = sym r.items i;
        place = (q i).entry.place;
        output = output i;
        steps = (q i).entry.steps;
        calls = (q i).entry.calls;
        depth = r.tells.depth i;
      }

  -- its own work
  pub work_is : {number : ℕ} {row : table.Call} (r : RowOf p h (calls_in g.result) number row) → work_in p input h number
      ≡ body p (depth_enough p r.call.entry.steps) r.call number (take r.call.below (drop (number + 1) (calls_in g.result)))
  work_is {number = number} r = ap (λ x. work_of p x number) g.is ∙ ap (work_at p (calls_in g.result) number) r.stands
