use Rattle.std.proofs.Common.{◌<◌, ◌≡◌, ◌≤◌, ℕ, slice_index}
use Rattle.optimal_query.proofs.runs.past_weightless.Given as goal
use Rattle.optimal_query.specs.Runs.{IsBelowWeightless}

abbrev pub invariant-loop-call : goal.invariant-loop-call
invariant-loop-call l = record {
  beyond : (call : ℕ) → l.from ≤ call → call < l.call → slice_index l.weights call ≡ 0 → slice_index l.last call ≤ l.reached;
  hidden : (call : ℕ) → l.to ≤ call → call ≤ l.reached → IsBelowWeightless l.last l.weights l.from l.call call;
}
