-- The steps that acts take.
use Rattle.std.proofs.Common.{if◌then◌else◌, ◌++◌, ◌+◌, ◌-◌, ◌∷◌, ◌≡◌, ◌≤◌, [], ℕ, Bool, List, None, Option, Some, arith, false, is_some, nat_lt, refl}
use Rattle.std.{proofs.Common.slice_get, proofs.Common.true, proofs.lemmas.Bool.ltb-false, specs.FinMap.get}
use Rattle.cell_value.specs.Effects.{heap_end}
use Rattle.cell_value.specs.declared.{entries.Touch.Touch, values.Value.Value, ways_out.Kind.Kind, ways_out.Which.TheVariants.Heap}
use Rattle.core_program.specs.{Blocks.block_cells, Blocks.lies_in_heap, State.State, State.is_in_reach, State.stack_end}
use Rattle.core_program.specs.Acts.{Act, ActResult, DropBlock, Fault, GiveByte, HasCell, Limited, MakeBlock, OutOfSteps, ReadCell, Spend, Stops, TakeIf, Went}
use Rattle.core_program.specs.Acts.{WriteCell, after_touches, drop_block, dropped_block, look_item, made_block, make_block, on_cell, perform, put_asked}
use Rattle.core_program.specs.Acts.{put_value, read_as, spent, take_item, take_looked, with_steps}

-- the steps that an act takes where it is done
abbrev pub cost : Act → ℕ
cost (Spend steps) = steps
cost (ReadCell addr) = 1
cost (HasCell addr) = 1
cost (WriteCell addr value) = 1
cost (TakeIf wanted) = 1
cost (GiveByte byte) = 1
cost (MakeBlock cells of') = block_cells cells
cost (DropBlock addr cells) = block_cells cells

-- where an act is done this many steps fewer are left, and else no more than there were
abbrev pub Acted : {A : Type 0} → ℕ → State → ActResult A → Type 0
Acted n σ (Went x w τ) = τ.steps + n ≤ σ.steps
Acted n σ (Stops why w τ) = τ.steps ≤ σ.steps

stepped : {A : Type 0} (n : ℕ) (σ : State) (go : State → ActResult A) → ((τ : State) → τ.steps + n ≤ σ.steps → Acted n σ (go τ))
    → Acted n σ (with_steps n σ go)
stepped {A} n σ go h = by (nat_lt σ.steps n) refl
  where
    by : (b : Bool) → nat_lt σ.steps n ≡ b → Acted n σ (if b then Stops OutOfSteps [] (spent σ) else go (record σ { steps = σ.steps - n }))
    by true e = omega arith
    by false e = h (record σ { steps = σ.steps - n }) (let k = ltb-false σ.steps n e in omega arith)

celled : {A : Type 0} (addr : ℕ) (σ : State) (go : State → ActResult A) → ((τ : State) → τ.steps + 1 ≤ σ.steps → Acted 1 σ (go τ))
    → Acted 1 σ (on_cell addr σ go)
celled {A} addr σ go h = by (is_in_reach σ addr)
  where
    by : (b : Bool) → Acted 1 σ (if b then with_steps 1 σ go else Stops (Fault Kind.Undefined) [] σ)
    by true = stepped 1 σ go h
    by false = omega arith

found : (addr : ℕ) (o : Option Value) (σ τ : State) → τ.steps + 1 ≤ σ.steps → Acted 1 σ (read_as addr o τ)
found addr None σ τ h = h
found addr (Some v) σ τ h = h

asked : (there : Bool) (addr : ℕ) (value : Value) (σ τ : State) → τ.steps + 1 ≤ σ.steps → Acted 1 σ (put_asked there addr value τ)
asked true addr value σ τ h = by (nat_lt τ.steps 1)
  where
    by : (b : Bool) → Acted 1 σ (after_touches (Touch.Has addr true ∷ [])
        (if b then Stops OutOfSteps [] (spent τ) else put_value addr value (record τ { steps = τ.steps - 1 })))
    by true = omega arith
    by false = omega arith
asked false addr value σ τ h = h

written : (addr : ℕ) (value : Value) (σ τ : State) → τ.steps + 1 ≤ σ.steps
    → Acted 1 σ (if nat_lt addr stack_end then put_value addr value τ else put_asked (is_some (get τ.cells addr)) addr value τ)
written addr value σ τ h = by (nat_lt addr stack_end)
  where
    by : (b : Bool) → Acted 1 σ (if b then put_value addr value τ else put_asked (is_some (get τ.cells addr)) addr value τ)
    by true = h
    by false = asked (is_some (get τ.cells addr)) addr value σ τ h

after : {A : Type 0} (w : List Touch) (n : ℕ) (σ : State) (d : ActResult A) → Acted n σ d → Acted n σ (after_touches w d)
after w n σ (Went x v τ) h = h
after w n σ (Stops why v τ) h = h

looked : (wanted : ℕ → Bool) (o : Option ℕ) (σ τ : State) → τ.steps + 1 ≤ σ.steps → Acted 1 σ (take_looked wanted o τ)
looked wanted None σ τ h = h
looked wanted (Some item) σ τ h = by (wanted item)
  where
    left : (b : Bool) → Acted 1 σ (if b then Stops OutOfSteps [] (spent τ)
        else Went (Some item) (Touch.Take 1 ∷ []) (record τ { place = τ.place + 1; steps = τ.steps - 1 }))
    left true = omega arith
    left false = omega arith

    by : (b : Bool) → Acted 1 σ (take_item b item τ)
    by true = left (nat_lt τ.steps 1)
    by false = h

made : (n of' : ℕ) (σ : State) → Acted n σ (make_block n of' σ)
made n of' σ = by (nat_lt heap_end (σ.fresh + n))
  where
    by : (b : Bool) → Acted n σ (if b then Stops (Limited Heap) [] σ else with_steps n σ (made_block n of'))
    by true = omega arith
    by false = stepped n σ (made_block n of') (λ τ h. h)

dropped : (addr n : ℕ) (σ : State) → Acted n σ (drop_block addr n σ)
dropped addr n σ = by (lies_in_heap addr n)
  where
    by : (b : Bool) → Acted n σ (if b then with_steps n σ (dropped_block addr n) else Stops (Fault Kind.Undefined) [] σ)
    by true = stepped n σ (dropped_block addr n) (λ τ h. h)
    by false = omega arith

pub acted : (act : Act) (σ : State) → Acted (cost act) σ (perform act σ)
acted (Spend steps) σ = stepped steps σ (λ τ. Went tt [] τ) (λ τ h. h)
acted (ReadCell addr) σ = celled addr σ (λ τ. read_as addr (get σ.cells addr) τ) (λ τ h. found addr (get σ.cells addr) σ τ h)
acted (HasCell addr) σ = celled addr σ (λ τ. Went (is_some (get σ.cells addr)) (Touch.Has addr (is_some (get σ.cells addr)) ∷ []) τ) (λ τ h. h)
acted (WriteCell addr value) σ = celled addr σ
    (λ τ. if nat_lt addr stack_end then put_value addr value τ else put_asked (is_some (get τ.cells addr)) addr value τ) (written addr value σ)
acted (TakeIf wanted) σ = stepped 1 σ (look_item wanted) (λ τ h. after (Touch.Look τ.place ∷ []) 1 σ (take_looked wanted (slice_get τ.items τ.place) τ)
    (looked wanted (slice_get τ.items τ.place) σ τ h))
acted (GiveByte byte) σ = stepped 1 σ (λ τ. Went tt (Touch.Give byte ∷ []) (record τ { output = τ.output ++ byte ∷ [] })) (λ τ h. h)
acted (MakeBlock cells of') σ = made (block_cells cells) of' σ
acted (DropBlock addr cells) σ = dropped addr (block_cells cells) σ
