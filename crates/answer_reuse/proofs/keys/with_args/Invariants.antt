use Rattle.std.proofs.Common.{◌≡◌, take}
use Rattle.answer_reuse.proofs.keys.with_args.Given as goal
use Rattle.answer_reuse.specs.Keys.{args_digest}

abbrev pub invariant-loop-arg : goal.invariant-loop-arg
invariant-loop-arg l = l.digest ≡ args_digest l.fn.digest (take l.arg-index l.args)
