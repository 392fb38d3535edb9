use Rattle.std.{proofs.Common.◌≡◌, proofs.Common.length, proofs.Common.true, specs.List.Sorted.IsSortedWithin}
use Rattle.answer_reuse.proofs.classes.Classes.join.Given as goal
use Rattle.answer_reuse.specs.{Kept.AreJoined, Sorting.AreSorted, Sorting.comes_first}

abbrev pub invariant-keys : goal.invariant-keys
invariant-keys l = record {
  each : length l.self ≡ length l.run.calls.calls;
  joined : AreSorted l.run l.keys → AreJoined l.run l.keys l.i l.self;
  rising : l.rise ≡ true → IsSortedWithin (comes_first l.run) l.keys 0 l.i;
}
