-- The calls of a run as a table keeps them.
use Rattle.std.specs.Prelude.{◌+◌, ℕ, List, Option, length}
use Rattle.core_program.specs.{Run.Call, Run.Marked, State.State}
use Rattle.core_program.specs.Numbering.{belows, depth_of, each_from, last_below, parent_of}
use Rattle.call_tree.specs.declared.records.Call as table
use Rattle.call_tree.specs.declared.records.Side.{Side}

-- what is kept of a state beside a call, at a mark of the log
abbrev pub side_of : (mark : ℕ) → State → Side
side_of mark σ = record {
  mark = mark;
  top = σ.top;
  fresh = σ.fresh;
  place = σ.place;
  output = length σ.output;
  steps = σ.steps;
  calls = σ.calls;
  store = σ.cells;
}

-- a call's row, with what its number and its mark say
abbrev pub row_with : Call → (parent : Option ℕ) (depth last mark : ℕ) → table.Call
row_with c parent depth last mark = record {
  routine = c.routine;
  parent = parent;
  depth = depth;
  last = last;
  args = c.args;
  entry = side_of mark c.entry;
  exit = side_of (mark + length c.log) c.exit;
  way = c.way;
  result = c.result;
}

-- call k, where these numbers of calls are below each call
abbrev pub table_row : List ℕ → ℕ → Marked Call → table.Call
table_row bs k c = row_with c.event (parent_of bs k) (depth_of bs k) (last_below bs k) c.mark

-- the table of these calls
abbrev pub table_of : List (Marked Call) → List table.Call
table_of cs = each_from (table_row (belows cs)) 0 cs
