-- Where pointers lead: to what a run made.
use Rattle.std.specs.Prelude.{◌<◌, ◌≡◌, ◌≤◌, ℕ, All, Some}
use Rattle.std.specs.FinMap.{get}
use Rattle.cell_value.specs.{Effects.heap_start, declared.values.Value.Value}
use Rattle.core_program.specs.{Run.Call, RunLaws.OfEachCall, State.State}

-- A pointer leads to where a run made variables: below the heap's first free address. Other values lead nowhere.
abbrev pub LeadsToMade : (fresh : ℕ) → Value → Type 0
LeadsToMade fresh (Value.Heap address) = (heap_start ≤ address) × (address < fresh)
LeadsToMade fresh v = Unit {0}

-- so do all pointers that cells hold
abbrev pub PointersAreMade : State → Type 0
PointersAreMade σ = (address : ℕ) (v : Value) → get σ.cells address ≡ Some v → LeadsToMade σ.fresh v

-- those before a call and after it, those that it takes, and the one that it gives
pub record KeepsPointers (c : Call) : Type 0 where
  pub before : PointersAreMade c.entry
  pub args : All (LeadsToMade c.entry.fresh) c.args
  pub after : PointersAreMade c.exit
  pub result : (v : Value) → c.result ≡ Some v → LeadsToMade c.exit.fresh v

-- so it is with each call of each run
abbrev pub RunsKeepPointers : Type 0
RunsKeepPointers = OfEachCall (λ p number c below. KeepsPointers c)
