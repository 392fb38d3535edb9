-- What a right program says of a call of a run.
use Rattle.std.proofs.Common.{◌∙◌, ◌≡◌, ℕ, List, Some, ap, slice_get, sym}
use Rattle.std.{proofs.lemmas.Option.slice_get-map, specs.Option.option_map}
use Rattle.core_program.specs.{ProgramRows.ProgramRows, Run.Call, Run.run}
use Rattle.program_run.specs.declared.history.History.{History}
use Rattle.body_replay.specs.Replays.{records_of}
use Rattle.reference_oracle.specs.{Fitting.asked, Verdicts.verdict_on, declared.verdicts.Verdict.Verdict}
use Rattle.debuggee.proofs.SlicesOfRuns.{CallOf}
use Rattle.debuggee.specs.{Execution.Execution, References.refer, References.referred, References.referred_on}

-- a call of a run that is kept is one of the calls of the run
pub stands : {p : ProgramRows} {input : List ℕ} {h : History} {k : ℕ} (c : CallOf p input h k)
    → slice_get (records_of (run p input h.budget)) k ≡ Some c.entry.event
stands {k = k} c =
    ap (λ x. slice_get (records_of x) k) c.run_is ∙ slice_get-map (λ e. e.event) c.result.events k ∙ ap (option_map (λ e. e.event)) c.of_call

-- what is said of it is what the verdict on it comes to
pub says : (h : Execution) (reference : ProgramRows) (k : ℕ) (c : Call) (verdict : Verdict)
    → slice_get (records_of (run h.recorded.program h.supply.input h.supply.budget)) k ≡ Some c
    → verdict ≡ verdict_on (asked h.recorded.program reference c h.supply.budget) → referred verdict ≡ refer h reference k
says h reference k c verdict at e = ap referred e ∙ sym (ap (referred_on h reference) at)
