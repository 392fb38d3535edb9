use Rattle.std.{proofs.Common.filter, proofs.Common.length, specs.List.flat_map}
use Rattle.edge_ports.specs.Printouts.{PrintsAllBut}
use Rattle.optimal_query.specs.Region.{is_after}
use Rattle.dialog_replies.proofs.reply.print_doubts.Given as goal
use Rattle.dialog_replies.specs.{Subject.doubts_after, Texts.doubt_line, Texts.doubt_lines}

abbrev pub invariant-doubts : goal.invariant-doubts
invariant-doubts g l =
    let s = g.D.Debugged.subject l.run in
    let printout = g.P.Printer.printout in
    record {
      written : PrintsAllBut (printout l.fn.out) (doubt_lines s l.debug.book.entries)
          (printout l.out) (flat_map (doubt_line s) (filter (is_after l.last) (doubts_after s l.debug.book.entries)));
    }

abbrev pub decreases-doubts : goal.decreases-doubts
decreases-doubts g l = length (filter (is_after l.last) (doubts_after (g.D.Debugged.subject l.run) l.debug.book.entries))
