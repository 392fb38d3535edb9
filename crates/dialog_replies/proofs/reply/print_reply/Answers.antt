use Rattle.std.proofs.Common.{◌++◌, ℕ, List, refl, subst}
use Rattle.edge_ports.specs.Printouts.{Prints}
use Rattle.dialog_replies.proofs.PiecesInTurn.{both_printed}
use Rattle.dialog_replies.proofs.reply.print_reply.Goals as goal
use Rattle.dialog_replies.specs.{Kept.said_in_dialog, Prepared.text_of_report}

pub returns-in-Reported : goal.returns-in-Reported
returns-in-Reported g c =
    let s = g.D.Debugged.subject c.args.run.now in
    let said = said_in_dialog c.args.dialog.now in
    let printout = g.P.Printer.printout in
    let before = printout c.args.out.now in
    let between = printout c.print-in-Reported.new.self in
    rw c.in-Reported.is
    (both_printed before between (printout c.print_report.new.out) c.in-Reported.text (text_of_report s said c.in-Reported.report)
    (subst (λ (text : List ℕ). Prints before between text) c.as_slice-in-Reported.ensures c.print-in-Reported.ensures)
    (c.print_report.ensures said refl))

pub returns-in-Opening : goal.returns-in-Opening
returns-in-Opening g c =
    let s = g.D.Debugged.subject c.args.run.now in
    let said = said_in_dialog c.args.dialog.now in
    let printout = g.P.Printer.printout in
    let before = printout c.args.out.now in
    let between = printout c.print-in-Opening.new.self in
    let carded = printout c.write_card.new.out in
    let text = c.in-Opening.text in
    rw c.in-Opening.is
    (both_printed before carded (printout c.print_report-in-Opening.new.out) (text ++ s.card 0) (text_of_report s said c.in-Opening.report)
    (both_printed before between carded text (s.card 0)
    (subst (λ (text : List ℕ). Prints before between text) c.as_slice-in-Opening.ensures c.print-in-Opening.ensures) c.write_card.ensures)
    (c.print_report-in-Opening.ensures said refl))
