-- How calls end in the code, and where no call is open.
use Rattle.std.proofs.Common.{◌∷◌, ◌≡◌, [], ℕ, List, None, Option, Some, ap, arith, length, map, refl, reverse, subst, sym}
use Rattle.cell_value.specs.declared.{values.Value.Value, ways_out.WayOut.WayOut}
use Rattle.core_program.specs.{ProgramRows.ProgramRows, Replay.end_of, Run.Ended, Run.Halted}
use Rattle.core_program.specs.Tree.{Jump, Nothing, Out, Ret, Scalar}
use Rattle.eval_ops.specs.Machines.{moment_of}
use Rattle.evaluator.specs.declared.body.Body.{Body}
use Rattle.program_run.proofs.StepsLeadToTheRun.{over}
use Rattle.program_run.specs.Runners.{At, Chain, InnermostEnds, open_in, opens_in, rest_in, view_of}
use Rattle.program_run.specs.Tower.{Ends, First, IsOver, Rests, stage_after}
use Rattle.program_run.specs.declared.{open_call.OpenCall.OpenCall, runner.Runner.Runner}

chain_none : (os : List OpenCall) → Chain None os → os ≡ []
chain_none [] h = refl
chain_none (o ∷ os) h = absurd h

pub no_calls : (os : List OpenCall) → length os ≡ 0 → os ≡ []
no_calls [] e = refl
no_calls (o ∷ os) e = absurd (omega arith)

module _ {p : ProgramRows} {first : First} where
  -- every open call was stopped
  pub halted : (r : Runner) (way : WayOut) → At p first (Ends (Halted way)) r → r.opens.items ≡ [] → IsOver p first (moment_of r.machine) r.calls
  halted r way h e = over (view_of p r) (Ends (Halted way)) (Halted way) h (ap (λ os. map (open_in p) (reverse os)) e) (λ n. refl)

  -- the first call returned
  pub returned : (r : Runner) (caller : Option Body) (out : Out) → At p first (stage_after (rest_in p caller) (Ended out)) r → caller ≡ None
      → Chain caller (opens_in r) → IsOver p first (moment_of r.machine) r.calls
  returned r caller out h e c =
      over (view_of p r) (Rests (Ret out)) (Ended out) (subst (λ o. At p first (stage_after (rest_in p o) (Ended out)) r) e h)
      (ap (map (open_in p)) (chain_none (opens_in r) (subst (λ o. Chain o (opens_in r)) e c))) (λ n. refl)

module _ (p : ProgramRows) (first : First) where
  pub record Left (r : Runner) (w : WayOut) (answer : Option Value) : Type 0 where
    pub out : Out
    pub ending : InnermostEnds p first (Ended out) r (w, answer)
    pub is : end_of w answer ≡ Ended out

  pub by_return : (r : Runner) (w : WayOut) (answer : Option Value) → w ≡ WayOut.Returned → At p first (Ends (end_of w answer)) r → Left r w answer
  by_return r w None e h = record {
    out = Nothing;
    ending = record { ends = subst (λ v. At p first (Ends (end_of v None)) r) e h; goes_out = sym e; gives = refl };
    is = ap (λ v. end_of v None) e;
  }
  by_return r w (Some x) e h = record {
    out = Scalar x;
    ending = record { ends = subst (λ v. At p first (Ends (end_of v (Some x))) r) e h; goes_out = sym e; gives = refl };
    is = ap (λ v. end_of v (Some x)) e;
  }

  pub by_jump : (r : Runner) (w : WayOut) (answer : Option Value) (label base : ℕ) → w ≡ WayOut.Jumped label base → At p first (Ends (end_of w answer)) r
      → Left r w None
  by_jump r w answer label base e h = record {
    out = Jump label base;
    ending = record { ends = subst (λ v. At p first (Ends (end_of v answer)) r) e h; goes_out = sym e; gives = refl };
    is = ap (λ v. end_of v None) e;
  }
