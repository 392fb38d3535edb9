-- The run of a program and of a call, at any depth that is enough.
use Rattle.std.proofs.Common.{◌+◌, ◌∙◌, ◌≡◌, ◌≤◌, ℕ, IsSome, List, None, Option, Some, ap, arith, false, is_some, refl, subst, sym}
use Rattle.cell_value.specs.declared.values.Value.{Value}
use Rattle.core_program.proofs.{OutcomesCompose.none_some, OutcomesCompose.some_same, WholeParts.Anything, WholeParts.Good}
use Rattle.core_program.proofs.EachTreeEnds.{Ends, call_total, total}
use Rattle.core_program.proofs.MoreDepthSameResult.{Less, call_less, more_fuel, same_result}
use Rattle.core_program.specs.{Run.run_of, Run.start, State.State, WholeTables.WholeTables, declared.program.Routine.Routine}
use Rattle.core_program.specs.ProgramRows.{ProgramRows, routine_at}
use Rattle.core_program.specs.Run.{Call, Outcome, Result, after_all, at_work, block, call_closed, call_of, depth_enough, in_frame, opened, recorded, run}

some_is : {A : Type 0} (x : Option A) (r : A) → x ≡ Some r → IsSome x
some_is x r e = subst (λ y. IsSome y) (sym e) refl

module _ (p : ProgramRows) (W : WholeTables p) where
  -- the program block is meant
  block_good : Good p W Anything block
  block_good = (W.main, λ out f. tt)

  run_ends : (input : List ℕ) (budget : ℕ) → Ends Anything false budget (run p input budget)
  run_ends input budget = total p W block Anything block_good (start input budget) (depth_enough p budget) (omega arith)

  pub runs : (input : List ℕ) (budget : ℕ) → IsSome (run p input budget)
  runs input budget = let h = run_ends input budget in some_is _ h.result h.is

  pub deeper : (input : List ℕ) (budget more : ℕ) → run_of p (depth_enough p budget + more) block (start input budget) ≡ run p input budget
  deeper input budget more = let h = run_ends input budget in more_fuel p (depth_enough p budget) more block (start input budget) h.result h.is ∙ sym h.is

  -- what some depth gives is the run
  pub run_is : (input : List ℕ) (budget n : ℕ) (r : Result State Call) → run_of p n block (start input budget) ≡ Some r → run p input budget ≡ Some r
  run_is input budget n r e =
      let h = run_ends input budget in
      h.is ∙ ap (λ x. Some x) (same_result p (depth_enough p budget) n block (start input budget) h.result r h.is e)

  pub call_runs : (f : ℕ) (args : List Value) (σ : State) (n : ℕ) → IsSome (routine_at p f) → depth_enough p σ.steps ≤ n
      → IsSome (call_of p (run_of p n) f args σ)
  call_runs f args σ n there k = let h = call_total p W f args σ n there k in some_is _ h.result h.is

  -- what a call gives at some depth it gives at each depth that is enough
  pub call_deeper : (n m f : ℕ) (args : List Value) (σ : State) → depth_enough p σ.steps ≤ m
      → Less (call_of p (run_of p n) f args σ) (call_of p (run_of p m) f args σ)
  call_deeper n m f args σ k = record { gives = λ r e. by r e (routine_at p f) refl }
    where
      framed : Option Routine → Outcome
      framed o = recorded f args σ (after_all (call_closed σ.depth) (in_frame (at_work p (run_of p n) f) args (opened σ) o))

      by : (r : Result State Call) → call_of p (run_of p n) f args σ ≡ Some r → (o : Option Routine) → routine_at p f ≡ o
          → call_of p (run_of p m) f args σ ≡ Some r
      by r e None q = absurd (none_some (sym (ap framed q) ∙ e))
      by r e (Some x) q =
          let h = call_total p W f args σ m (ap is_some q) k in
          let a = (call_less p (run_of p n) (run_of p (n + m)) (λ t τ. record { gives = λ r e. more_fuel p n m t τ r e }) f args σ).gives r e in
          let b = (call_less p (run_of p m) (run_of p (n + m)) (λ t τ. record {
            gives = λ r e. subst (λ k. run_of p k t τ ≡ Some r) (let q : m + n ≡ n + m = omega arith in q) (more_fuel p m n t τ r e);
          }) f args σ).gives h.result h.is in
          h.is ∙ ap (λ x. Some x) (some_same (sym b ∙ a))
