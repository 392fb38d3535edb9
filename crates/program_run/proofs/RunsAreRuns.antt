-- What is left once no call is open is the run of the program.
use Rattle.std.proofs.Common.{◌∙◌, ◌∷◌, ◌≡◌, [], ℕ, List, Some, ap, length, subst, suc, sym}
use Rattle.cell_value.specs.declared.values.Value.{Value, TheVariants.Nil}
use Rattle.core_program.proofs.MoreDepthSameResult.{Less, joined_less, less_same, plain_grows, run_less}
use Rattle.core_program.proofs.RunAtAnyDepth.{run_is}
use Rattle.core_program.specs.{ProgramRows.ProgramRows, State.State, Tree.Out, Tree.Ret, WholeTables.WholeTables}
use Rattle.core_program.specs.Run.{Outcome, call_of, joined, plain, run, run_of, start}
use Rattle.call_tree.specs.Recording.{Recording, nothing_entered}
use Rattle.eval_ops.specs.Machines.{Moment}
use Rattle.program_run.proofs.StepsLeadToTheRun.{at_first}
use Rattle.program_run.specs.History.{log_of, output_of, recording_of}
use Rattle.program_run.specs.Tower.{Calls, IsOver, TowerAt, View, first_call}

-- no call is entered yet
pub record Starts (p : ProgramRows) (σ : State) (v : View) : Type 0 where
  pub state : v.moment.state ≡ σ
  pub log : v.moment.log ≡ []
  pub opens : v.opens ≡ []
  pub recording : v.recording ≡ nothing_entered (length p.routines)

pub starts : (p : ProgramRows) (f : ℕ) (args : List Value) (σ : State) (v : View) → Starts p σ v
    → TowerAt p (first_call f args σ) (Calls f args Ret) v
starts p f args σ v s =
    subst (λ w. TowerAt p (first_call f args σ) (Calls f args Ret) w) (λ i. record { opens = sym s.opens i; moment = v.moment; recording = sym s.recording i })
    (at_first p f args σ v.moment s.state s.log)

module _ (p : ProgramRows) (W : WholeTables p) (input : List ℕ) (budget : ℕ) (m : Moment) (kept : Recording)
    (h : IsOver p (first_call 0 (Nil ∷ []) (start input budget)) m kept) where
  σ : State
  σ = start input budget

  main : Outcome
  main = call_of p (run_of p h.depth) 0 (Nil ∷ []) σ

  after : Out → State → Outcome
  after out τ = run_of p h.depth (Ret out) τ

  deeper : Less (joined main after) (joined main (λ out τ. run_of p (suc h.depth) (Ret out) τ))
  unfolding after
  deeper = joined_less _ _ _ _ (less_same main) (λ out τ. run_less (plain p) (plain_grows p) p h.depth (Ret out) τ)

  is : run p input budget ≡ Some h.result
  unfolding main σ after
  is = run_is p W input budget (suc h.depth) h.result (deeper.gives h.result h.is)

  pub calls_are : kept ≡ recording_of p (run p input budget)
  calls_are = h.recording ∙ ap (recording_of p) (sym is)

  pub log_is : m.log ≡ log_of (run p input budget)
  log_is = h.log ∙ ap log_of (sym is)

  pub output_is : m.state.output ≡ output_of (run p input budget)
  output_is = ap (λ σ. σ.output) h.after ∙ ap output_of (sym is)
