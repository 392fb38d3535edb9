-- The columns of a run that the weights depend on.
use Rattle.std.specs.Prelude.{◌≡◌, ◌≤◌, ℕ, List, Option, length}
use Rattle.call_tree.specs.{Numbering.IsNumbered, declared.records.Call.Call, declared.records.Mark.Mark}
use Rattle.call_tree.specs.Recording.{depths_of, lasts_of, parents_of}

-- the parent of each call, the last call of its subtree, and its depth
pub record Columns : Type 0 where
  pub parent : List (Option ℕ)
  pub last : List ℕ
  pub depth : List ℕ

abbrev pub columns_of : List Call → Columns
columns_of calls = record { parent = parents_of calls; last = lasts_of calls; depth = depths_of calls }

-- columns of one run, all of one length
pub record AreColumns (parent : List (Option ℕ)) (last : List ℕ) (marks : List Mark) (weights unders : List ℕ)
    : Type 0 where
  pub few : length parent ≤ 500000
  pub numbered : IsNumbered parent last
  pub marked : length marks ≡ length parent
  pub weighed : length weights ≡ length parent
  pub summed : length unders ≡ length parent
