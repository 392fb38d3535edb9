use Rattle.std.proofs.Common.{◌/◌, ◌∙◌, arith}
use Rattle.persistent_store.proofs.NodeLemmas.{on_err, restored, there_at, written_below}
use Rattle.persistent_store.proofs.trie.write_root.Goals as goal
use Rattle.persistent_store.specs.Nodes.{in_level3}

pub returns-in_err-write_level3-in-Some-clause-unchanged : goal.returns-in_err-write_level3-in-Some-clause-unchanged
returns-in_err-write_level3-in-Some-clause-unchanged g c =
    let there = there_at (c.args.addr / 65536) c.node.invariant (omega arith) (c.node.view_is ∙ c.in-Some.ensures.value) c.in-Some.ensures.there in
    on_err _ (restored _ _ there c.in_err-write_level3-in-Some.ensures.unchanged)

pub returns-in_ok-write_level3-in-Some-clause-written : goal.returns-in_ok-write_level3-in-Some-clause-written
returns-in_ok-write_level3-in-Some-clause-written g c =
    let there = there_at (c.args.addr / 65536) c.node.invariant (omega arith) (c.node.view_is ∙ c.in-Some.ensures.value) c.in-Some.ensures.there in
    written_below 65536 in_level3 c.args.addr _ _ there c.in_ok-write_level3-in-Some.ensures.written
