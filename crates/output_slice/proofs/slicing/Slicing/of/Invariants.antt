use Rattle.std.proofs.Common.{◌-◌, ◌∷◌, ◌≡◌, [], length}
use Rattle.core_program.specs.{Run.Call, Run.Result, State.State}
use Rattle.output_slice.proofs.{KeptOfRuns.forest_at, PairsTogether.KeptTogether}
use Rattle.output_slice.proofs.slicing.Slicing.of.Given as goal
use Rattle.output_slice.specs.{Backward.pass, Firsts.AreFirsts, KeptRuns.IsKeptRun}

-- the calls up to here were followed
abbrev pub invariant-loop-number : goal.invariant-loop-number
invariant-loop-number l = record {
  pairs : (r : Result State Call) → IsKeptRun l.run r → l.found.pairs ≡ pass r (l.number - l.call) l.call ((l.call, l.fn.output) ∷ []);
  together : (r : Result State Call) (k : IsKeptRun l.run r) → KeptTogether r (forest_at k) l.call l.number l.found.pairs;
  firsts : AreFirsts l.found.pairs l.found.firsts.items;
  places : length l.found.firsts.items ≡ length l.run.calls.calls;
}
