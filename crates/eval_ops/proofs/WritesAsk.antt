-- A write of a cell of the heap asks first whether the cell is there.
use Rattle.std.proofs.Common.{if◌then◌else◌, ◌-◌, ◌<◌, ◌∙◌, ◌∷◌, ◌≡◌, ◌≤◌, [], ℕ, Bool, ap, false, is_some, nat_lt, refl, sym, true}
use Rattle.std.{proofs.lemmas.Bool.le-ltb, proofs.lemmas.Bool.lt-ltb, specs.FinMap.get}
use Rattle.cell_value.specs.declared.{entries.Touch.Touch, values.Value.Value, ways_out.Kind.Kind}
use Rattle.core_program.specs.{Acts.with_steps, State.State, State.is_in_reach, State.stack_end}
use Rattle.core_program.specs.Acts.{ActResult, Fault, HasCell, OutOfSteps, Stops, Went, WriteCell, after_touches, on_cell, perform, put_asked, put_value, spent}

-- in the stack it does not ask
pub in_stack : (addr : ℕ) (v : Value) (σ : State) → addr < stack_end → perform (WriteCell addr v) σ ≡ on_cell addr σ (put_value addr v)
in_stack addr v σ h =
    ap (λ b. on_cell addr σ (λ τ. if b then put_value addr v τ else put_asked (is_some (get τ.cells addr)) addr v τ)) (lt-ltb addr stack_end h)

abbrev after_answer : ℕ → Value → ActResult Bool → ActResult Bool
after_answer addr v (Went true w σ) = after_touches w (on_cell addr σ (put_value addr v))
after_answer addr v (Went false w σ) = Went false w σ
after_answer addr v (Stops why w σ) = Stops why w σ

-- in the heap it goes on by the answer
pub in_heap : (addr : ℕ) (v : Value) (σ : State) → stack_end ≤ addr → perform (WriteCell addr v) σ ≡ after_answer addr v (perform (HasCell addr) σ)
in_heap addr v σ h = ap (λ b. on_cell addr σ (λ τ. if b then put_value addr v τ else put_asked (is_some (get τ.cells addr)) addr v τ)) (le-ltb addr stack_end h)
    ∙ by (is_in_reach σ addr) (nat_lt σ.steps 1) refl
  where
    asked : Bool → State → ActResult Bool
    asked there τ = Went there (Touch.Has addr there ∷ []) τ

    there : (b r : Bool) → is_in_reach σ addr ≡ r → r ≡ true → put_asked b addr v (record σ { steps = σ.steps - 1 })
        ≡ after_answer addr v (asked b (record σ { steps = σ.steps - 1 }))
    there true r e q = sym (ap (λ r. after_touches (Touch.Has addr true ∷ [])
        (if r then with_steps 1 (record σ { steps = σ.steps - 1 }) (put_value addr v) else Stops (Fault Kind.Undefined) [] (record σ { steps = σ.steps - 1 })))
        (e ∙ q))
    there false r e q = refl

    by : (r b : Bool) → is_in_reach σ addr ≡ r
        → (if r then if b then Stops OutOfSteps [] (spent σ) else put_asked (is_some (get σ.cells addr)) addr v (record σ { steps = σ.steps - 1 }) else Stops
        (Fault Kind.Undefined) [] σ)
        ≡ after_answer addr v (if r then if b then Stops OutOfSteps [] (spent σ) else asked (is_some (get σ.cells addr)) (record σ { steps = σ.steps - 1 })
        else Stops (Fault Kind.Undefined) [] σ)
    by true true e = refl
    by true false e = there (is_some (get σ.cells addr)) true e refl
    by false b e = refl
