use Rattle.answer_reuse.proofs.classes.keyed_calls.Given as goal
use Rattle.answer_reuse.specs.Sorting.{AreKeysTo}

abbrev pub invariant-calls : goal.invariant-calls
invariant-calls l = AreKeysTo l.run l.call l.keys.items
