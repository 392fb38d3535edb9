-- Each call of a run has a record.
use Rattle.std.proofs.Common.{◌<◌, ◌∙◌, ◌≡◌, ℕ, Some, ap, arith, length, slice_get}
use Rattle.std.{proofs.lemmas.List.length-map, proofs.lemmas.Option.slice_get-map, specs.Option.option_map}
use Rattle.core_program.specs.{Numbering.calls_of, ProgramRows.ProgramRows, Run.Call, Run.run}
use Rattle.call_tree.specs.Recording.{lasts_of}
use Rattle.program_run.specs.Table.{table_of}
use Rattle.body_replay.specs.Replays.{records_of}
use Rattle.debuggee.{proofs.CallsAreNumbered.row_at, proofs.CallsAreNumbered.rows_length, specs.Execution.Supply, specs.Execution.calls_with}

pub call_is_recorded : (p : ProgramRows) (s : Supply) (call : ℕ) → call < length (lasts_of (calls_with s p))
    → (c : Call) × (slice_get (records_of (run p s.input s.budget)) call ≡ Some c)
unfolding calls_with
call_is_recorded p s call below =
    let cs = calls_of (run p s.input s.budget) in
    let columns = length-map (table_of cs) (λ r. r.last) in let rows = rows_length cs in
    let inside : call < length cs = omega (arith, below, columns, rows) in
    let found = row_at cs call inside in
    (found.0.event, slice_get-map (λ e. e.event) cs call ∙ ap (option_map (λ e. e.event)) found.2)
