-- The calls of a run with their marks, which the weights are about.
use Rattle.std.specs.Prelude.{ℕ, List, length, replicate, slice_set}
use Rattle.call_tree.specs.declared.records.{Call.Call, Mark.Mark, Mark.TheVariants.Unjudged}
use Rattle.subtree_weights.specs.RunColumns.{Columns, columns_of}
use Rattle.subtree_weights.specs.Weights.{under_of, weight_of, weights_of}

pub record Weighed : Type 0 where
  pub columns : Columns
  pub marks : List Mark

-- calls of which nothing is said
abbrev pub unjudged : List Call → Weighed
unjudged calls = record { columns = columns_of calls; marks = replicate (length calls) Unjudged }

-- the same calls, one of them with this mark
abbrev pub with_mark : Weighed → ℕ → Mark → Weighed
with_mark weighed call mark = record weighed { marks = slice_set weighed.marks call mark }

-- the same calls with these marks
abbrev pub with_marks : Weighed → List Mark → Weighed
with_marks weighed marks = record weighed { marks = marks }

-- how many calls there are
abbrev pub call_count : Weighed → ℕ
call_count weighed = length weighed.columns.last

-- the weight of a call, how many suspects stand under it, and the weight of each call
abbrev pub weight_in : Weighed → ℕ → ℕ
weight_in weighed call = weight_of weighed.columns.last weighed.marks call

abbrev pub under_in : Weighed → ℕ → ℕ
under_in weighed call = under_of weighed.columns.last weighed.marks call

abbrev pub weights_in : Weighed → List ℕ
weights_in weighed = weights_of weighed.columns.last weighed.marks
