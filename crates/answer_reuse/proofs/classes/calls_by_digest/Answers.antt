use Rattle.std.proofs.Common.{length}
use Rattle.answer_reuse.proofs.KeysOfRun.{keys_permuted}
use Rattle.answer_reuse.proofs.classes.calls_by_digest.Goals as goal

pub returns : goal.returns
returns c =
    let run = c.args.run.now in
    keys_permuted run (length run.calls.calls) _ _ c.in_ok-sort_by_key.ensures.permutation c.in_ok-keys.ensures
