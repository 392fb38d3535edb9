-- Records of calls in the table of a run, and when the effect of one can be put in place of its run.
use Rattle.std.specs.Prelude.{◌+◌, ◌<◌, ◌≡◌, ◌≤◌, ℕ, List, Option}
use Rattle.cell_value.specs.{Effects.heap_end, Effects.made_of, Effects.taken_of, declared.entries.Touch.Touch}
use Rattle.core_program.specs.{Numbering.StandsAt, Run.Call, State.State, State.most_calls}
use Rattle.call_tree.specs.declared.records.Call as table
use Rattle.program_run.specs.Table.{row_with}

-- a row of the table is that of a call with this number, whose part of the log stands where the row says
pub record IsRecordOf (log : List Touch) (number : ℕ) (row : table.Call) (c : Call) : Type 0 where
  pub parent : Option ℕ
  pub depth : ℕ
  pub mark : ℕ
  pub is : row ≡ row_with c parent depth (number + c.below) mark
  pub stands : StandsAt log mark c.log
  pub base : c.base ≡ c.entry.top

-- the counts of a state have room for what a call made, took and called
pub record HasRoomFor (c : Call) (σ : State) : Type 0 where
  pub fresh : σ.fresh + made_of c.log ≤ heap_end
  pub place : σ.place + taken_of c.log < 4294967296
  pub calls : σ.calls + (c.below + 1) ≤ most_calls
