use Rattle.std.proofs.Common.{◌+◌, ◌≡◌, Bool, Some, drop, length}
use Rattle.std.specs.List.{slice_get}
use Rattle.core_program.specs.{Run.Call, Run.Marked, Run.Result, State.State}
use Rattle.output_slice.proofs.passes.pass_call.Given as goal
use Rattle.output_slice.specs.{Backward.back, Children.begin_of, Children.pieces_from, Firsts.AreFirsts, KeptRuns.IsKeptRun, Needed.AreGathered}
use Rattle.output_slice.specs.{Needed.AreWanted, Needed.wants_alone, Passes.IsPassed, declared.outputs.Output.Output}

-- the pieces from here on were passed, and this is where the first of them begins
abbrev pub invariant-loop-i : goal.invariant-loop-i
invariant-loop-i l = record {
  passed : (r : Result State Call) → IsKeptRun l.run r → (e : Marked Call) → slice_get r.events l.call ≡ Some e → (wants : Output → Bool)
      → AreGathered wants l.gathered → AreWanted l.initial.needs (wants_alone wants)
      → IsPassed l.needs l.initial.found.pairs l.found.pairs (back wants (pieces_from r (e.mark + length e.event.log) (drop l.i l.children.items)));
  at : (r : Result State Call) → IsKeptRun l.run r → (e : Marked Call) → slice_get r.events l.call ≡ Some e
      → l.at ≡ begin_of r (e.mark + length e.event.log) (drop l.i l.children.items);
  firsts : AreFirsts l.initial.found.pairs l.initial.found.firsts.items → AreFirsts l.found.pairs l.found.firsts.items;
  places : length l.found.firsts.items ≡ length l.initial.found.firsts.items;
}
