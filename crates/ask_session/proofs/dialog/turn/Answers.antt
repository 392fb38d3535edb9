use Rattle.dialog_replies.specs.{Kept.said_in_dialog, Prepared.text_of_reply}
use Rattle.ask_session.proofs.LineIsAnswered.{given_so}
use Rattle.ask_session.proofs.dialog.turn.Goals as goal
use Rattle.ask_session.specs.{Desks.held_on, Turned.DialogStage}

pub returns-in-Ok-clause-turned : goal.returns-in-Ok-clause-turned
returns-in-Ok-clause-turned g c =
    let s = g.D.Debugged.subject c.args.run.now in
    let tables = g.D.Debugged.tables c.args.run.now in
    let files = g.K.Keeper.files in
    let counts = g.K.Keeper.counts in
    let given = g.O.Printer.given in
    let old : DialogStage = record {
      progress = record {
        moment = record { held = held_on tables c.args.desk.now; files = files c.args.keeper.now; counts = counts c.args.keeper.now };
        lines = c.args.lines.now;
      };
      given = given c.args.screen.now;
    } in
    let said = said_in_dialog c.next_reply.new.desk.dialog in
    let new : DialogStage = record {
      progress = record {
        moment = record { held = held_on tables c.next_reply.new.desk; files = files c.next_reply.new.keeper; counts = counts c.next_reply.new.keeper };
        lines = c.next_reply.new.lines;
      };
      given = given c.give_reply.new.screen;
    } in
    given_so (g.D.Debugged.reads c.args.run.now) s c.args.start.now old new (text_of_reply s said c.in-Ok.reply) c.give_reply.result c.in-Ok.ensures.reply
    (record { whole = c.give_reply.ensures.ok; part = c.give_reply.ensures.failed; ending = c.give_reply.ensures.ending })
