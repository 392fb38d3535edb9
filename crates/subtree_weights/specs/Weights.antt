-- How many suspects stand below a call, and how many in its whole subtree.
use Rattle.std.specs.Prelude.{if◌then◌else◌, ◌+◌, ℕ, List, Option, Some, count_by, length, map}
use Rattle.std.specs.List.{range_with_len}
use Rattle.call_tree.specs.{Clear.is_clear, Clear.is_unjudged, declared.records.Mark.Mark}
use Rattle.subtree_weights.specs.Searched.{is_suspect, mark_at}

-- how many suspects there are below `top`; with no such call, how many there are
unfoldable pub suspects_below : List ℕ → List Mark → Option ℕ → ℕ
suspects_below last marks top = count_by (is_suspect last marks top) (range_with_len 0 (length last))

-- how many suspects stand below a call
abbrev pub under_of : List ℕ → List Mark → ℕ → ℕ
under_of last marks call = suspects_below last marks (Some call)

-- the weight of a call with this mark, under which that many suspects stand: a clear call is left out with all of them,
-- and an unjudged call is one itself
abbrev pub weight_by : Mark → ℕ → ℕ
weight_by mark under = if is_clear mark then 0 else (if is_unjudged mark then under + 1 else under)

-- the weight of a call
abbrev pub weight_of : List ℕ → List Mark → ℕ → ℕ
weight_of last marks call = weight_by (mark_at marks call) (under_of last marks call)

-- the weight of each call, in order of entry
abbrev pub weights_of : List ℕ → List Mark → List ℕ
weights_of last marks = map (weight_of last marks) (range_with_len 0 (length last))
