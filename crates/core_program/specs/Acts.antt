-- The acts by which a construct meets the state. An act takes as many steps as it makes entries of the log; to spend
-- steps makes none.
use Rattle.std.specs.Prelude.{if◌then◌else◌, ◌++◌, ◌+◌, ◌-◌, ◌∷◌, [], ℕ, Bool, List, None, Option, Some, false, is_some}
use Rattle.std.specs.{Prelude.nat_lt, Prelude.replicate, Prelude.slice_get, Prelude.true, FinMap.get, FinMap.insert}
use Rattle.cell_value.specs.{Effects.heap_end, declared.values.Value.Value, declared.values.Value.TheVariants.Undefined}
use Rattle.cell_value.specs.declared.{entries.Touch.Touch, ways_out.Kind.Kind, ways_out.Which.Which}
use Rattle.cell_value.specs.declared.ways_out.Which.TheVariants.{Calls, Depth, Heap, Stack}
use Rattle.core_program.specs.Blocks.{block_cells, cleared, filled, lies_in_heap}
use Rattle.core_program.specs.State.{State, is_in_reach, most_calls, most_depth, stack_end}

-- why an act or an action is not done, and the run stops for good
pub data Trouble : Type 0 where
  Fault : (kind : Kind) → Trouble
  OutOfSteps : Trouble
  Limited : (which : Which) → Trouble

pub data Act : Type 0 where
  Spend : (steps : ℕ) → Act
  ReadCell : (addr : ℕ) → Act
  -- asks whether a cell is there
  HasCell : (addr : ℕ) → Act
  -- puts a value into a cell; of a cell of the heap it first asks whether it is there
  WriteCell : (addr : ℕ) (value : Value) → Act
  -- looks at the item of the input at the place, or at the end there, and takes it if it is one that is wanted
  TakeIf : (wanted : ℕ → Bool) → Act
  -- gives a byte to the output
  GiveByte : (byte : ℕ) → Act
  -- makes a block of the heap for a variable of a type with this many cells, by the number of the type
  MakeBlock : (cells of' : ℕ) → Act
  -- drops the block of such a variable, which begins at an address
  DropBlock : (addr cells : ℕ) → Act

-- What an act answers. A cell of the heap that is to be read or written may not be there. The answer to the making of a
-- block is where it begins.
abbrev pub Answer : Act → Type 0
Answer (Spend steps) = Unit {0}
Answer (ReadCell addr) = Option Value
Answer (HasCell addr) = Bool
Answer (WriteCell addr value) = Bool
Answer (TakeIf wanted) = Option ℕ
Answer (GiveByte byte) = Unit {0}
Answer (MakeBlock cells of') = ℕ
Answer (DropBlock addr cells) = Unit {0}

-- An act was done, with its answer, what it shows in the log and the state after it; or it was not done, or not
-- whole, and the run stops.
pub data ActResult (A : Type 0) : Type 0 where
  Went : (answer : A) (log : List Touch) (after : State) → ActResult A
  Stops : (why : Trouble) (log : List Touch) (after : State) → ActResult A

-- no steps are left
abbrev pub spent : State → State
spent σ = record σ { steps = 0 }

-- An act that takes this many steps. Where fewer are left it is not done, and none are left then.
abbrev pub with_steps : {A : Type 0} → ℕ → State → (State → ActResult A) → ActResult A
with_steps n σ go = if nat_lt σ.steps n then Stops OutOfSteps [] (spent σ) else go (record σ { steps = σ.steps - n })

-- An act of one step on a cell. At an address that is not in reach it is not done, and takes no step.
abbrev pub on_cell : {A : Type 0} → ℕ → State → (State → ActResult A) → ActResult A
on_cell addr σ go = if is_in_reach σ addr then with_steps 1 σ go else Stops (Fault Kind.Undefined) [] σ

abbrev pub read_as : ℕ → Option Value → State → ActResult (Option Value)
read_as addr (Some v) σ = Went (Some v) (Touch.Read addr v ∷ []) σ
read_as addr None σ = Went None (Touch.Has addr false ∷ []) σ

-- The first limit that one call more, with a frame of this many cells, would pass. The call would stand at the depth
-- that is the number of open calls.
abbrev pub limit_passed : State → ℕ → Option Which
limit_passed σ cells =
    if nat_lt most_calls (σ.calls + 1) then Some Calls
    else if nat_lt most_depth σ.depth then Some Depth
    else if nat_lt stack_end (σ.top + cells) then Some Stack
    else None

-- after what these touches show
abbrev pub after_touches : {A : Type 0} → List Touch → ActResult A → ActResult A
after_touches w (Went x v σ) = Went x (w ++ v) σ
after_touches w (Stops why v σ) = Stops why (w ++ v) σ

-- a value is put into a cell, once there is a step for it
abbrev pub put_value : (addr : ℕ) → Value → State → ActResult Bool
put_value addr value σ = Went true (Touch.Write addr value ∷ []) (record σ { cells = insert σ.cells addr value })

-- The same where it was asked whether the cell is there, and this was the answer: a cell that is not there gets no
-- value, and one that is there takes a step more.
abbrev pub put_if : Bool → (addr : ℕ) → Value → State → ActResult Bool
put_if true addr value σ = with_steps 1 σ (put_value addr value)
put_if false addr value σ = Went false [] σ

abbrev pub put_asked : Bool → (addr : ℕ) → Value → State → ActResult Bool
put_asked there addr value σ = after_touches (Touch.Has addr there ∷ []) (put_if there addr value σ)

-- ---- items of the input

-- an item that was looked at is taken, if it is wanted, which takes a step more
abbrev pub take_item : Bool → (item : ℕ) → State → ActResult (Option ℕ)
take_item true item σ =
    with_steps 1 σ (λ τ. Went (Some item) (Touch.Take 1 ∷ []) (record τ { place = τ.place + 1 }))
take_item false item σ = Went (Some item) [] σ

abbrev pub take_looked : (wanted : ℕ → Bool) → Option ℕ → State → ActResult (Option ℕ)
take_looked wanted None σ = Went None [] σ
take_looked wanted (Some item) σ = take_item (wanted item) item σ

-- the item at the place is looked at, once there is a step for it
abbrev pub look_item : (wanted : ℕ → Bool) → State → ActResult (Option ℕ)
look_item wanted σ = after_touches (Touch.Look σ.place ∷ []) (take_looked wanted (slice_get σ.items σ.place) σ)

-- ---- blocks of the heap

-- a block of this many cells is made where the heap is free, none of them with a value
abbrev pub made_block : (cells of' : ℕ) → State → ActResult ℕ
made_block n of' σ = Went σ.fresh (Touch.Make σ.fresh n of' ∷ []) (record σ {
  cells = filled σ.fresh (replicate n Undefined) σ.cells;
  fresh = σ.fresh + n;
})

-- A block with a step for each cell. Where it does not fit into the heap it is not made, and takes no step.
abbrev pub make_block : (cells of' : ℕ) → State → ActResult ℕ
make_block n of' σ =
    if nat_lt heap_end (σ.fresh + n) then Stops (Limited Heap) [] σ
    else with_steps n σ (made_block n of')

-- the block of this many cells at an address is dropped
abbrev pub dropped_block : (addr cells : ℕ) → State → ActResult (Unit {0})
dropped_block addr n σ = Went tt (Touch.Drop addr n ∷ []) (record σ { cells = cleared addr n σ.cells })

-- The same with a step for each cell. Where they do not all lie in the heap it is not done, and takes no step.
abbrev pub drop_block : (addr cells : ℕ) → State → ActResult (Unit {0})
drop_block addr n σ =
    if lies_in_heap addr n then with_steps n σ (dropped_block addr n) else Stops (Fault Kind.Undefined) [] σ

-- what an act does
abbrev pub perform : (act : Act) → State → ActResult (Answer act)
perform (Spend steps) σ = with_steps steps σ (λ τ. Went tt [] τ)
perform (ReadCell addr) σ = on_cell addr σ (λ τ. read_as addr (get σ.cells addr) τ)
perform (HasCell addr) σ = on_cell addr σ (λ τ.
    Went (is_some (get σ.cells addr)) (Touch.Has addr (is_some (get σ.cells addr)) ∷ []) τ)
perform (WriteCell addr value) σ = on_cell addr σ (λ τ.
    if nat_lt addr stack_end then put_value addr value τ else put_asked (is_some (get τ.cells addr)) addr value τ)
perform (TakeIf wanted) σ = with_steps 1 σ (look_item wanted)
perform (GiveByte byte) σ = with_steps 1 σ (λ τ.
    Went tt (Touch.Give byte ∷ []) (record τ { output = τ.output ++ byte ∷ [] }))
perform (MakeBlock cells of') σ = make_block (block_cells cells) of' σ
perform (DropBlock addr cells) σ = drop_block addr (block_cells cells) σ
