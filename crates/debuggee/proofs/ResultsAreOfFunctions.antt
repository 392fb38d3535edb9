-- A call with a result is one of a function.
use Rattle.std.proofs.Common.{◌∙◌, ◌≡◌, ℕ, Bool, List, None, Option, Some, ap, false, is_some, refl, subst, sym, true}
use Rattle.cell_value.specs.declared.values.Value.{Value}
use Rattle.core_program.proofs.{OutcomesCompose.none_some, RunsRecord.MadeBy, Ways.Ran, Ways.RanCall, Ways.RanFrame}
use Rattle.core_program.proofs.Ways as ways
use Rattle.core_program.specs.{ProgramRows.ProgramRows, ProgramRows.routine_at, Run.Call, Run.Result, Run.result_in, Run.return_of, State.State}
use Rattle.core_program.specs.{Statements.nothing, Statements.on_normal, declared.program.Routine.Routine}
use Rattle.core_program.specs.Tree.{ActTree, Actuals, Address, Bounded, Cells, Jump, Nothing, Out, Part, Scalar, Sub}

module _ (p : ProgramRows) where
  abbrev NoValue : ActTree → Type 0
  NoValue t = (n : ℕ) (σ : State) (r : Result State Call) → Ran p n t σ r → result_in r.end ≡ None

  after_part : (n : ℕ) (part : Part) (next : Out → ActTree) (σ : State) (r : Result State Call) → ((out : Out) → NoValue (next out))
      → Ran p n (Sub part next) σ r → result_in r.end ≡ None
  after_part n part next σ r h (ways.PartStopped g e) = ap result_in e
  after_part n part next σ r h (ways.PartEnded {out = out} {s = s} g e l) = h out _ _ s l

  no_value : (out : Out) → NoValue (on_normal nothing out)
  no_value Nothing n σ r ways.Returned = refl
  no_value (Scalar v) n σ r ways.Returned = refl
  no_value (Cells vs) n σ r ways.Returned = refl
  no_value (Address a) n σ r ways.Returned = refl
  no_value (Bounded address base) n σ r ways.Returned = refl
  no_value (Actuals passed) n σ r ways.Returned = refl
  no_value (Jump label base) n σ r ways.Returned = refl

  -- the routine of a call that has a result has one
  record HasResult (f : ℕ) (r : Result State Call) : Type 0 where
    routine : Routine
    has : routine_at p f ≡ Some routine
    result : is_some routine.result ≡ false → result_in r.end ≡ None

  in_frame : {n f : ℕ} {args : List Value} {σ : State} {r : Result State Call} → RanFrame p n f args σ r → HasResult f r
  in_frame (ways.NoRoom {q = q} e t) = record { routine = q; has = e; result = λ h. refl }
  in_frame (ways.NoSteps {q = q} e t u) = record { routine = q; has = e; result = λ h. refl }
  in_frame (ways.Worked {n = n} {f = f} {σ = σ} {q = q} {y = y} e t u g) = record {
    routine = q;
    has = e;
    result = λ h. after_part n _ _ _ y
        (subst (λ o. (out : Out) → NoValue (on_normal (return_of p σ.top q o) out)) (sym (none q.result h)) no_value) g;
  }
    where
      none : (o : Option ℕ) → is_some o ≡ false → o ≡ None
      none None h = refl
      none (Some a) h = absurd (let z : true ≡ false = h in cc)

  in_call : {n f : ℕ} {args : List Value} {σ : State} {r : Result State Call} → RanCall p n f args σ r → HasResult f r
  in_call (ways.Closed c h) = let g = in_frame h in record { routine = g.routine; has = g.has; result = g.result }

  pub record IsFunction (c : Call) : Type 0 where
    pub routine : Routine
    pub has : routine_at p c.routine ≡ Some routine
    pub result : is_some routine.result ≡ true

  pub is_function : (c : Call) (cs : List Call) (v : Value) → MadeBy p c cs → c.result ≡ Some v → IsFunction c
  is_function c cs v h e =
      record { routine = g.routine; has = g.has; result = by (is_some g.routine.result) refl }
    where
      g : HasResult c.routine h.result
      g = in_call h.ran

      by : (b : Bool) → is_some g.routine.result ≡ b → b ≡ true
      by true q = refl
      by false q = absurd (none_some (sym (g.result q) ∙ ap (λ (d : Call). d.result) h.record' ∙ e))
