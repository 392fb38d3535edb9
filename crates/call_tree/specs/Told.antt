-- What can be told of a call, by the log and the items of the run's input.
use Rattle.std.specs.Prelude.{◌+◌, ◌<◌, ◌^◌, ◌≤◌, ℕ, All, List, length, slice_range}
use Rattle.cell_value.specs.{Effects.IsCountable, Effects.made_of, Effects.taken_of, declared.entries.Touch.Touch}
use Rattle.call_tree.specs.declared.records.Call.{Call}

-- what the log has between the marks before a call and after it
abbrev pub part_of : List Touch → Call → List Touch
part_of log call = slice_range log call.entry.mark call.exit.mark

-- a call's part of the log is one whose effect can be counted, and the input has the items that the call took
pub record IsTold (log : List Touch) (items : List ℕ) (call : Call) : Type 0 where
  pub in_order : call.entry.mark ≤ call.exit.mark
  pub in_log : call.exit.mark ≤ length log
  pub countable : All IsCountable (part_of log call)
  pub made_fits : made_of (part_of log call) < 2 ^ 32
  pub taken_fits : taken_of (part_of log call) < 2 ^ 32
  pub in_input : call.entry.place + taken_of (part_of log call) ≤ length items
