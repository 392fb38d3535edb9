use Rattle.std.proofs.Common.{Ok, refl}
use Rattle.edge_ports.proofs.{HandedLinesAreHeard.all_handed, SameBytesCome.comes_cleared, SameBytesCome.still_comes, SameBytesCome.turned}
use Rattle.edge_ports.proofs.lines.Lines.next.Goals as goal

pub returns-in-Ok-clause-console : goal.returns-in-Ok-clause-console
returns-in-Ok-clause-console g c = λ bytes comes.
    let cleared = comes_cleared c.clear.ensures.cleared comes in
    let filled = still_comes c.fill.new.self c.clear.ensures.consistent.handed c.fill.ensures.handed c.fill.ensures.moved c.fill.ensures.end_seen cleared in
    turned c.hand_out.new.self.line (Ok c.hand_out.result) filled c.hand_out.ensures.ended c.hand_out.ensures.console

pub returns-in-Err-clause-console : goal.returns-in-Err-clause-console
returns-in-Err-clause-console g c = λ bytes comes.
    let cleared = comes_cleared c.clear.ensures.cleared comes in
    (bytes, still_comes c.fill.new.self c.clear.ensures.consistent.handed c.fill.ensures.handed c.fill.ensures.moved c.fill.ensures.end_seen cleared, refl)

pub returns-in-Err-clause-stopped : goal.returns-in-Err-clause-stopped
returns-in-Err-clause-stopped g c = all_handed c.fill.new.self c.fill.ensures.consistent.cut c.in-Err.ensures.err.0 c.in-Err.ensures.err.1
