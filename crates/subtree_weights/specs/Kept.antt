-- How weights are kept: beside the calls a column of their parents, their marks, and the columns of the sums.
use Rattle.std.specs.Prelude.{◌≡◌, ℕ, List, Option, slice_index}
use Rattle.call_tree.specs.{Nesting.IsRooted, declared.records.Mark.Mark}
use Rattle.subtree_weights.specs.{Sums.AreSums, Weighed.Weighed, declared.weights.Weights.TheInside.Inside}
use Rattle.subtree_weights.specs.RunColumns.{AreColumns, Columns, columns_of}

abbrev pub weighed_of : Inside → Weighed
weighed_of kept = record { columns = columns_of kept.calls.value.calls; marks = kept.marks.items }

-- the columns of this run, and the sums for its marks
pub record AreKept (columns : Columns) (parents : List (Option ℕ)) (marks : List Mark) (weights unders : List ℕ)
    : Type 0 where
  pub of_one_run : AreColumns columns.parent columns.last marks weights unders
  pub rooted : IsRooted columns.parent columns.depth
  pub parents_are : parents ≡ columns.parent
  pub sums : AreSums columns.parent marks (slice_index weights) (slice_index unders)

abbrev pub IsKept : Inside → Type 0
IsKept kept =
    AreKept (columns_of kept.calls.value.calls) kept.parents.items kept.marks.items kept.weights.items
    kept.unders.items
