use Rattle.std.proofs.Common.{◌+◌, ◌≡◌}
use Rattle.body_replay.proofs.counted.count_steps.Given as goal

abbrev pub invariant-taken : goal.invariant-taken
invariant-taken g l = l.steps ≡ l.fn.steps + l._taken
