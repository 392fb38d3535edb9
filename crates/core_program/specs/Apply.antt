-- The effect of a recorded call, put in place of its run: what it changes is changed, and all else stays.
use Rattle.std.specs.Prelude.{◌++◌, ◌+◌, ◌-◌, ◌∷◌, [], ℕ, List}
use Rattle.std.specs.{FinMap.FinMap, FinMap.insert, FinMap.remove, Ordering.nat_cmp}
use Rattle.cell_value.specs.Effects.{changes_of, given_of, made_of, taken_of}
use Rattle.cell_value.specs.declared.entries.Change.{Change, TheVariants.Gone, TheVariants.Set}
use Rattle.cell_value.specs.declared.values.Value.{Value}
use Rattle.core_program.specs.{Run.Call, State.State}

-- cells with these changes made
abbrev pub changed_cells : List (ℕ × Change) → FinMap nat_cmp Value → FinMap nat_cmp Value
changed_cells [] m = m
changed_cells ((addr, Set value) ∷ cs) m = changed_cells cs (insert m addr value)
changed_cells ((addr, Gone) ∷ cs) m = changed_cells cs (remove m addr)

-- the steps that a call took, with those of the calls below it
abbrev pub steps_taken : Call → ℕ
steps_taken c = c.entry.steps - c.exit.steps

-- a state after a call's effect
abbrev pub apply : Call → State → State
apply c σ = record {
  cells = changed_cells (changes_of c.base c.log) σ.cells;
  top = σ.top;
  fresh = σ.fresh + made_of c.log;
  items = σ.items;
  place = σ.place + taken_of c.log;
  output = σ.output ++ given_of c.log;
  steps = σ.steps - steps_taken c;
  calls = σ.calls + (c.below + 1);
  depth = σ.depth;
}
