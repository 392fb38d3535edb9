-- That a state agrees with a call, and what the call's effect makes of it, by what is kept of the run: the call's row
-- and what is found in its part of the log.
use Rattle.std.specs.Prelude.{◌++◌, ◌+◌, ◌-◌, ◌<◌, ◌≡◌, ◌≤◌, ℕ, List, drop, fold, max, take}
use Rattle.std.specs.{FinMap.get, List.All, List.slice_get}
use Rattle.cell_value.specs.Effects.{changes_of, given_of, looked_of, made_of, reads_of, taken_of}
use Rattle.cell_value.specs.declared.entries.Touch.{Touch}
use Rattle.core_program.specs.{Agree.Shows, Apply.changed_cells, State.State, State.most_calls, State.most_depth}
use Rattle.effect_log.specs.declared.by_maps.Footprint.{Footprint}
use Rattle.call_tree.specs.{Recording.depths_of, Told.part_of}
use Rattle.call_tree.specs.declared.records.Call as table
use Rattle.body_replay.specs.declared.kept_state.KeptState.{KeptState}

-- a state has room for what a call took and called, by the call's number and row
pub record HasRoomAt (rows : List table.Call) (number : ℕ) (row : table.Call) (at : KeptState) : Type 0 where
  pub steps : row.entry.steps - row.exit.steps ≤ at.steps
  pub calls : at.calls + (row.last - number + 1) ≤ most_calls
  pub depth : at.depth
      + (fold max row.depth (take (row.last - number) (drop (number + 1) (depths_of rows))) - row.depth) ≤ most_depth

-- a state shows all that a call met, by the call's row and its effect
pub record MeetsTheSame (others : List ℕ) (row : table.Call) (found : Footprint) (at : KeptState) : Type 0 where
  pub top : at.top ≡ row.entry.top
  pub fresh : 0 < found.made → at.fresh ≡ row.entry.fresh
  pub cells : All (λ (addr, seen). Shows (get at.store addr) seen) found.reads
  pub items : (n : ℕ) → n < found.looked → slice_get at.input (at.place + n) ≡ slice_get others (row.entry.place + n)

-- what is found in a call's part of the log is the call's effect
pub record IsEffectOf (log : List Touch) (row : table.Call) (found : Footprint) : Type 0 where
  pub reads : found.reads ≡ reads_of row.entry.top (part_of log row)
  pub changes : found.changes ≡ changes_of row.entry.top (part_of log row)
  pub made : found.made ≡ made_of (part_of log row)
  pub looked : found.looked ≡ looked_of row.entry.place (part_of log row)
  pub taken : found.taken ≡ taken_of (part_of log row)
  pub given : found.given ≡ given_of (part_of log row)

-- a state after the effect of a call, by the call's number and row
abbrev pub applied : (number : ℕ) → table.Call → Footprint → State → State
applied number row found σ = record {
  cells = changed_cells found.changes σ.cells;
  top = σ.top;
  fresh = σ.fresh + found.made;
  items = σ.items;
  place = σ.place + found.taken;
  output = σ.output ++ found.given;
  steps = σ.steps - (row.entry.steps - row.exit.steps);
  calls = σ.calls + (row.last - number + 1);
  depth = σ.depth;
}
