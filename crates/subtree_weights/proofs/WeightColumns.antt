-- The columns that the weights depend on, with the marks, and beside them the weights and the sums as they are kept.
use Rattle.std.proofs.Common.{ℕ, List, Option}
use Rattle.call_tree.specs.declared.records.Mark.{Mark}
use Rattle.subtree_weights.specs.RunColumns.{AreColumns}

pub record WeightColumns : Type 0 where
  pub parent : List (Option ℕ)
  pub last : List ℕ
  pub marks : List Mark
  pub weights : List ℕ
  pub unders : List ℕ

abbrev pub OfOneRun : WeightColumns → Type 0
OfOneRun kept = AreColumns kept.parent kept.last kept.marks kept.weights kept.unders
