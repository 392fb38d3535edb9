use Rattle.std.proofs.Common.{length, rules}
use Rattle.answer_reuse.proofs.{KeysInOrder.sorted_by_order, KeysOfRun.keys_permuted}
use Rattle.answer_reuse.proofs.classes.sorted_calls.Goals as goal

pub returns : goal.returns
returns c =
    let run = c.args.run.now in
    record {
      keys' = keys_permuted run (length run.calls.calls) _ _ c.in_ok-sort_by.ensures.permutation c.requires.keys;
      sorted = sorted_by_order run _ c.in_ok-sort_by.ensures.sorted (λ a r f k. search rules);
    }
