use Rattle.std.proofs.Common.{◌∙◌, is_some}
use Rattle.body_replay.proofs.{RecordsOfRuns.kept, RowsAgree.carries_so, RowsAgree.row_there}
use Rattle.body_replay.proofs.transplants.carries.Goals as goal
use Rattle.body_replay.specs.Traces.{kept_state}

pub returns : goal.returns
returns c input is =
    let w = c.requires.run in
    let k = kept c.is_whole.ensures.whole w.1 w.2 c.requires.budget in
    let there = row_there c.args.run.now.calls.calls c.args.onto c.requires.onto in
    c.is_some.ensures
    ∙ carries_so c.args.call c.args.onto k c.call-row.ensures.found there.1 (kept_state c.in_ok-at.at) (is_some c.in_ok-agreed.agreed) c.in_ok-at.ensures
    c.in_ok-agreed.ensures.agrees input is
