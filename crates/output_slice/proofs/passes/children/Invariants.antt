use Rattle.std.proofs.Common.{◌++◌, ◌+◌, ◌-◌, ◌<◌, ◌≡◌, Some, drop}
use Rattle.std.specs.List.{slice_get}
use Rattle.core_program.specs.{Run.Call, Run.Marked, Run.Result, State.State}
use Rattle.output_slice.proofs.passes.children.Given as goal
use Rattle.output_slice.specs.{Children.children_in, KeptRuns.IsKeptRun, KeptRuns.below_of}

abbrev pub invariant-below : goal.invariant-below
invariant-below l = record {
  from : l.call < l.next;
  found : (r : Result State Call) → IsKeptRun l.run r → (e : Marked Call) → slice_get r.events l.call ≡ Some e
      → l.children.items ++ children_in l.next 0 (drop (l.next - (l.call + 1)) (below_of r l.call e)) ≡ children_in (l.call + 1) 0 (below_of r l.call e);
}

abbrev pub decreases-below : goal.decreases-below
decreases-below l = l.end - l.next
