use Rattle.std.proofs.Common.{arith}
use Rattle.cell_names.proofs.RecordsInTurn.{placed_adds}
use Rattle.cell_names.proofs.records.push_placed.Goals as goal

pub returns-in_ok-push : goal.returns-in_ok-push
returns-in_ok-push c =
    let t = c.if-owner-len.true in let e = c.len.ensures in
    placed_adds c.args.lists.now.items c.args.placed c.index_mut.result.now c.push.new.self _ (omega (arith, t, e)) c.index_mut.ensures.value
    c.in_ok-push.ensures
