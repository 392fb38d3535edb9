-- What a pass keeps while it goes back over a call, and what that stands for.
use Rattle.std.specs.Prelude.{if◌then◌else◌, ◌<◌, ◌≡◌, ℕ, Bool, false, true}
use Rattle.cell_value.specs.Effects.{changes_of, given_of, heap_end, looked_of, made_of, reads_of, taken_of}
use Rattle.core_program.specs.Run.{Call}
use Rattle.effect_log.specs.declared.by_maps.Footprint.{Footprint}
use Rattle.call_tree.specs.declared.records.Call as table
use Rattle.output_slice.specs.{Backward.Wanted, Backward.only, CellSets.has_cell, declared.cell_set.CellSet.CellSet}
use Rattle.output_slice.specs.declared.{needs.Needs.Needs, outputs.Output.Output, used.Gathered.Gathered}
use Rattle.output_slice.specs.declared.outputs.Output.TheVariants.{Cell, Gives, Makes, Takes}

-- the set has these cells, of those that there may be
abbrev pub HasCells : CellSet → (ℕ → Bool) → Type 0
HasCells set cells = (a : ℕ) → a < heap_end → has_cell set a ≡ cells a

-- what is kept stands for this
pub record AreWanted (needs : Needs) (w : Wanted) : Type 0 where
  pub cells : HasCells needs.cells w.cells
  pub input : needs.input ≡ w.input
  pub heap : needs.heap ≡ w.heap

abbrev pub nothing_wanted : Wanted
nothing_wanted = record { cells = λ a. false; input = false; heap = false }

-- what is wanted after all pieces of a call, where these outputs of the call are
abbrev pub wants_alone : (Output → Bool) → Wanted
wants_alone wants = record { cells = λ a. wants (Cell a); input = false; heap = false }

-- what is found is the effect of a call
pub record IsEffectOfCall (c : Call) (found : Footprint) : Type 0 where
  pub reads : found.reads ≡ reads_of c.base c.log
  pub changes : found.changes ≡ changes_of c.base c.log
  pub made : found.made ≡ made_of c.log
  pub looked : found.looked ≡ looked_of c.entry.place c.log
  pub taken : found.taken ≡ taken_of c.log
  pub given : found.given ≡ given_of c.log

-- the row of a call tells how it ended
pub record EndsAs (c : Call) (row : table.Call) : Type 0 where
  pub way : row.way ≡ c.way
  pub result : row.result ≡ c.result

-- which of the outputs are wanted that gather those of the calls made
pub record AreGathered (wants : Output → Bool) (gathered : Gathered) : Type 0 where
  pub gives : gathered.gives ≡ wants Gives
  pub takes : gathered.takes ≡ wants Takes
  pub makes : gathered.makes ≡ wants Makes

-- these outputs of a call are wanted, and nothing else
pub record AreAsked (wants : Output → Bool) (gathered : Gathered) (needs : Needs) : Type 0 where
  pub outputs : AreGathered wants gathered
  pub cells : AreWanted needs (wants_alone wants)

-- one output more
abbrev pub with_output : (Output → Bool) → Output → Output → Bool
with_output wants x o = if wants o then true else only o x
