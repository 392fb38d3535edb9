use Rattle.std.{proofs.Common.◌-◌, proofs.Common.◌≡◌, proofs.Common.IsTrue, specs.Io.KnownBytes.IsAtEnd}
use Rattle.edge_ports.specs.{Limits.console_bytes, Lines.Moves}
use Rattle.dialog_replies.specs.Kept.{IsDialogOf}
use Rattle.ask_session.proofs.DialogEnds.{first_stage, stage}
use Rattle.ask_session.proofs.dialog.answer_lines.Given as goal
use Rattle.ask_session.specs.{Desks.held_on, Turned.Answered}

abbrev pub invariant-lines : goal.invariant-lines
invariant-lines g l =
    let left = g.I.Source.left in
    let given = g.O.Printer.given in
    let files = g.K.Keeper.files in
    let counts = g.K.Keeper.counts in
    record {
      answered : Answered (g.D.Debugged.reads l.run) (g.D.Debugged.subject l.run) l.start
          (first_stage (g.D.Debugged.reads l.run) (g.D.Debugged.subject l.run) l.start (record {
            files = files l.fn.keeper;
            counts = counts l.fn.keeper;
            streams = record { left = left l.fn.console; given = given l.fn.screen };
          }) l.fn.lines)
          (stage (held_on (g.D.Debugged.tables l.run) l.desk) (record {
            files = files l.keeper;
            counts = counts l.keeper;
            streams = record { left = left l.console; given = given l.screen };
          }) l.lines);
      moved : Moves l.fn.lines.taken l.lines.taken (left l.fn.console) (left l.console);
      at_end : IsTrue l.lines.ended → IsAtEnd (left l.console);
      console_faults : g.I.Source.faults l.console ≡ g.I.Source.faults l.fn.console;
      dialog : IsDialogOf (g.D.Debugged.subject l.run) l.desk.dialog;
      screen_faults : g.O.Printer.faults l.screen ≡ g.O.Printer.faults l.fn.screen;
      loan : g.O.Printer.loan l.screen ≡ g.O.Printer.loan l.fn.screen;
    }

abbrev pub decreases-lines : goal.decreases-lines
decreases-lines g l = console_bytes - l.lines.handed
