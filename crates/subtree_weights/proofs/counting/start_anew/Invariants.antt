use Rattle.std.proofs.Common.{◌+◌, ◌<◌, ◌≡◌, ℕ, get_or}
use Rattle.call_tree.specs.declared.records.Mark.{Mark}
use Rattle.subtree_weights.proofs.counting.start_anew.Given as goal

abbrev pub invariant-loop-place : goal.invariant-loop-place
invariant-loop-place g l =
    ((k : ℕ) (d : Mark) → k < l.place → get_or l.kept k d ≡ get_or l.marks k d) × ((k : ℕ) → k < l.place → get_or l.weights k 0 ≡ 0)
    × ((k : ℕ) → k < l.place → get_or l.unders k 0 ≡ 0) × (l.steps ≡ l.initial.steps + l.place)
