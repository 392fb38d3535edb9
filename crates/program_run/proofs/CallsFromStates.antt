-- What is left where a call was run by itself is the call from that state.
use Rattle.std.proofs.Common.{◌∙◌, ◌≡◌, ℕ, List, None, Some, ap, append-nil, arith, refl, suc, sym, zero}
use Rattle.cell_value.specs.declared.values.Value.{Value}
use Rattle.core_program.proofs.{OutcomesCompose.none_some, RunAtAnyDepth.call_deeper}
use Rattle.core_program.specs.{ProgramRows.ProgramRows, State.State, Tree.Ret, WholeTables.WholeTables}
use Rattle.core_program.specs.Run.{Call, End, Ended, Halted, Outcome, Result, call_of, depth_enough, joined, on_end, run_of}
use Rattle.call_tree.specs.Recording.{Recording}
use Rattle.eval_ops.specs.Machines.{Moment}
use Rattle.program_run.specs.{CalledFrom.call_from, History.log_of, History.output_of, History.recording_of, Tower.IsOver, Tower.first_call, Tower.run_first}

-- nothing is done after it
nothing_after : (p : ProgramRows) (n : ℕ) (r : Result State Call) (e : End) → r.end ≡ e → on_end r.end r (λ out τ. run_of p (suc n) (Ret out) τ) ≡ Some r
nothing_after p n r (Ended out) q =
    ap (λ d. on_end d r (λ out τ. run_of p (suc n) (Ret out) τ)) q ∙ (λ i. Some (record {
      end = sym q i;
      after = r.after;
      log = append-nil r.log i;
      events = append-nil r.events i;
    }))
nothing_after p n r (Halted way) q = ap (λ d. on_end d r (λ out τ. run_of p (suc n) (Ret out) τ)) q

alone : (p : ProgramRows) (n : ℕ) (x : Outcome) → joined x (λ out τ. run_of p (suc n) (Ret out) τ) ≡ x
alone p n None = refl
alone p n (Some r) = nothing_after p n r r.end refl

-- at no depth nothing can follow, so that the call stopped
stopped : (p : ProgramRows) (y r : Result State Call) (e : End) → y.end ≡ e → on_end e y (λ out τ. run_of p zero (Ret out) τ) ≡ Some r → Some y ≡ Some r
stopped p y r (Ended out) q h = absurd (none_some h)
stopped p y r (Halted way) q h = h

alone_gives : (p : ProgramRows) (n : ℕ) (x : Outcome) (r : Result State Call) → joined x (λ out τ. run_of p n (Ret out) τ) ≡ Some r → x ≡ Some r
alone_gives p zero None r e = absurd (none_some e)
alone_gives p zero (Some y) r e = stopped p y r y.end refl e
alone_gives p (suc n) x r e = sym (alone p n x) ∙ e

module _ (p : ProgramRows) (W : WholeTables p) (f : ℕ) (args : List Value) (σ : State) where
  -- what a run of the call alone gives at some depth is the call
  is_call : (n : ℕ) (r : Result State Call) → run_first p n (first_call f args σ) ≡ Some r → call_from p f args σ ≡ Some r
  is_call n r e = (call_deeper p W n (depth_enough p σ.steps) f args σ (omega arith)).gives r
      (alone_gives p n (call_of p (run_of p n) f args σ) r e)

  module _ (m : Moment) (kept : Recording) (h : IsOver p (first_call f args σ) m kept) where
    is : call_from p f args σ ≡ Some h.result
    is = is_call h.depth h.result h.is

    pub called_rows : kept ≡ recording_of p (call_from p f args σ)
    called_rows = h.recording ∙ ap (recording_of p) (sym is)

    pub called_log : m.log ≡ log_of (call_from p f args σ)
    called_log = h.log ∙ ap log_of (sym is)

    pub called_output : m.state.output ≡ output_of (call_from p f args σ)
    called_output = ap (λ (τ : State). τ.output) h.after ∙ ap output_of (sym is)
