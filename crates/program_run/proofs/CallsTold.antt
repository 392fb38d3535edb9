-- Each call that is kept of a run is told by its part of the log.
use Rattle.std.proofs.Common.{◌+◌, ◌<◌, ◌^◌, ◌∷◌, ◌≡◌, ◌≤◌, [], ℕ, All, List, None, Some, arith, length, refl, slice_get, subst, suc, sym}
use Rattle.std.proofs.lemmas.List.Elements.{All-cons, All-head, All-nil, All-tail}
use Rattle.std.proofs.lemmas.Option.{get_or_from_slice_get, slice_get_within}
use Rattle.cell_value.specs.{Effects.IsCountable, Effects.made_of, Effects.taken_of, declared.entries.Touch.Touch}
use Rattle.core_program.proofs.CallsCounted.{calls_counted}
use Rattle.core_program.specs.{Numbering.each_from, ProgramRows.ProgramRows, RunLaws.IsCounted, RunLaws.most_bytes}
use Rattle.core_program.specs.Run.{Call, Marked, Outcome, input_items, run}
use Rattle.call_tree.specs.{Recording.Recording, Told.IsTold}
use Rattle.call_tree.specs.declared.records.Call as table
use Rattle.program_run.specs.{History.IsOfRun, History.log_of, History.recording_of, Table.table_row, declared.history.History.History}

module _ (log : List Touch) (items bs : List ℕ) where
  row_told : (k : ℕ) (c : Marked Call) → IsCounted items log c → IsTold log items (table_row bs k c)
  row_told k c h = record {
    in_order = omega arith;
    in_log = h.in_log;
    countable = subst (All IsCountable) (sym h.part) h.countable;
    made_fits = subst (λ w. made_of w < 2 ^ 32) (sym h.part) h.made_fits;
    taken_fits = subst (λ w. taken_of w < 2 ^ 32) (sym h.part) h.taken_fits;
    in_input = subst (λ w. c.event.entry.place + taken_of w ≤ length items) (sym h.part) h.in_input;
  }

  rows_told : (k : ℕ) (cs : List (Marked Call)) → All (IsCounted items log) cs → All (IsTold log items) (each_from (table_row bs) k cs)
  rows_told k [] h = All-nil (IsTold log items)
  rows_told k (c ∷ cs) h =
      All-cons (IsTold log items) (table_row bs k c) (each_from (table_row bs) (suc k) cs) (row_told k c (All-head (IsCounted items log) c cs h))
      (rows_told (suc k) cs (All-tail (IsCounted items log) c cs h))

run_told : (p : ProgramRows) (input : List ℕ) (budget : ℕ) → length input ≤ most_bytes
    → All (IsTold (log_of (run p input budget)) (input_items input)) (recording_of p (run p input budget)).calls
run_told p input budget few = by (run p input budget) refl
  where
    by : (x : Outcome) → run p input budget ≡ x → All (IsTold (log_of x) (input_items input)) (recording_of p x).calls
    by None e = All-nil (IsTold [] (input_items input))
    by (Some r) e = rows_told r.log (input_items input) _ 0 r.events (calls_counted p input budget r few e)

kept_told : (p : ProgramRows) (input : List ℕ) (budget : ℕ) (h : History) → length input ≤ most_bytes → IsOfRun p input budget h
    → All (IsTold h.log h.input) h.calls.calls
kept_told p input budget h few is =
    let x = run p input budget in
    subst (λ (r : Recording). All (IsTold h.log h.input) r.calls) (sym is.calls)
    (subst (λ l. All (IsTold l h.input) (recording_of p x).calls) (sym is.log)
    (subst (λ xs. All (IsTold (log_of x) xs) (recording_of p x).calls) (sym is.items) (run_told p input budget few)))

pub calls_told : (p : ProgramRows) (input : List ℕ) (budget : ℕ) (h : History) → length input ≤ most_bytes → IsOfRun p input budget h → (number : ℕ)
    (c : table.Call) → slice_get h.calls.calls number ≡ Some c → IsTold h.log h.input c
calls_told p input budget h few is number c e =
    let cs = h.calls.calls in
    subst (IsTold h.log h.input) (get_or_from_slice_get cs number c c e) (kept_told p input budget h few is number c (slice_get_within cs number c e))
