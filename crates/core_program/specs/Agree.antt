-- When the record of a call stands for a run of it from another state.
use Rattle.std.specs.Prelude.{◌+◌, ◌-◌, ◌<◌, ◌≡◌, ◌≤◌, ℕ, IsSome, List, None, Option, Some, fold, map, max, slice_get}
use Rattle.std.specs.{FinMap.get, List.All}
use Rattle.cell_value.specs.Effects.{looked_of, made_of, reads_of}
use Rattle.cell_value.specs.declared.{values.Value.Value, ways_out.WayOut.WayOut}
use Rattle.cell_value.specs.declared.entries.Seen.{Seen, TheVariants.Absent, TheVariants.Held, TheVariants.There}
use Rattle.core_program.specs.{Apply.steps_taken, Run.Call, State.State, State.most_calls, State.most_depth}

-- a call that ended by itself, by a jump or by a fault: neither for want of steps nor at a limit
abbrev pub EndedByItself : WayOut → Type 0
EndedByItself WayOut.OutOfSteps = ⊥
EndedByItself (WayOut.Limited which) = ⊥
EndedByItself way = Unit {0}

-- a cell is as it was seen
abbrev pub Shows : Option Value → Seen → Type 0
Shows cell (Held value) = cell ≡ Some value
Shows cell There = IsSome cell
Shows cell Absent = cell ≡ None

-- the greatest depth in a call's subtree; `below` are the calls below it
abbrev pub deepest : (c : Call) → (below : List Call) → ℕ
deepest c below = fold max c.depth (map (λ d. d.depth) below)

-- A state agrees with a call on all that the call met; `below` are the calls below it.
pub record Agrees (c : Call) (below : List Call) (σ : State) : Type 0 where
  pub way : EndedByItself c.way
  pub top : σ.top ≡ c.entry.top
  -- a call that made cells of the heap made them from here on
  pub fresh : 0 < made_of c.log → σ.fresh ≡ c.entry.fresh
  -- what it read and asked of the cells that it shares with its caller
  pub cells : All (λ (addr, seen). Shows (get σ.cells addr) seen) (reads_of c.base c.log)
  -- the items that it looked at; where it looked at the end, the end comes there too
  pub items : (n : ℕ) → n < looked_of c.entry.place c.log
      → slice_get σ.items (σ.place + n) ≡ slice_get c.entry.items (c.entry.place + n)
  pub steps : steps_taken c ≤ σ.steps
  pub calls : σ.calls + (c.below + 1) ≤ most_calls
  pub depth : σ.depth + (deepest c below - c.depth) ≤ most_depth
