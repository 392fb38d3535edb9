use Rattle.std.proofs.Common.{◌≡◌, [], ℕ, List, subst}
use Rattle.edge_ports.specs.Told.{GaveAll, GavePrefix}
use Rattle.dialog_replies.specs.{Kept.said_in_dialog, Prepared.text_of_reply, Replies.opening_of}
use Rattle.ask_session.proofs.SessionsAreHeld.{Opened, ended_at_once, nothing, printed_fit, screen_at_once, went_so}
use Rattle.ask_session.proofs.session.hold_session.Goals as goal
use Rattle.ask_session.specs.{Dialog.held_at_start, Dialog.line_replies, Heard.lines_in, Outside.Outside}

pub returns-in_default-clause-goes : goal.returns-in_default-clause-goes
returns-in_default-clause-goes g c =
    let s = g.D.Debugged.subject c.args.run.now in
    let before : Outside = record {
      files = g.K.Keeper.files c.args.keeper.now;
      counts = g.K.Keeper.counts c.args.keeper.now;
      streams = record { left = g.I.Source.left c.args.console.now; given = g.O.Printer.given c.args.screen.now };
    } in
    ended_at_once s c.args.start.now (g.D.Debugged.reads c.args.run.now) before

pub returns-in_default-resume-clause-goes : goal.returns-in_default-resume-clause-goes
returns-in_default-resume-clause-goes g c =
    let s = g.D.Debugged.subject c.args.run.now in
    let before : Outside = record {
      files = g.K.Keeper.files c.args.keeper.now;
      counts = g.K.Keeper.counts c.args.keeper.now;
      streams = record { left = g.I.Source.left c.args.console.now; given = g.O.Printer.given c.args.screen.now };
    } in
    ended_at_once s c.args.start.now (g.D.Debugged.reads c.args.run.now) before

pub returns-in_default-open-clause-goes : goal.returns-in_default-open-clause-goes
returns-in_default-open-clause-goes g c =
    let s = g.D.Debugged.subject c.args.run.now in
    let before : Outside = record {
      files = g.K.Keeper.files c.args.keeper.now;
      counts = g.K.Keeper.counts c.args.keeper.now;
      streams = record { left = g.I.Source.left c.args.console.now; given = g.O.Printer.given c.args.screen.now };
    } in
    ended_at_once s c.args.start.now (g.D.Debugged.reads c.args.run.now) before

pub returns-clause-goes : goal.returns-clause-goes
returns-clause-goes g c =
    let s = g.D.Debugged.subject c.args.run.now in
    let before : Outside = record {
      files = g.K.Keeper.files c.args.keeper.now;
      counts = g.K.Keeper.counts c.args.keeper.now;
      streams = record { left = g.I.Source.left c.args.console.now; given = g.O.Printer.given c.args.screen.now };
    } in
    let given' = g.O.Printer.given c.give_reply.new.screen in
    let start = c.args.start.now in
    let text : text_of_reply s (said_in_dialog c.open.new.dialog) c.in-Ok-open.opening ≡ opening_of s start = c.in-Ok-open.ensures.text in
    screen_at_once s start (g.D.Debugged.reads c.args.run.now) before given' (opening_of s start) (line_replies s (held_at_start start) [] (lines_in nothing))
    (printed_fit s start [] (lines_in nothing) c.requires.fits)
    (subst (λ (x : List ℕ). GavePrefix before.streams.given given' x) text c.in-Err.ensures.failed)

pub returns-in-Ok-give_reply-clause-goes : goal.returns-in-Ok-give_reply-clause-goes
returns-in-Ok-give_reply-clause-goes g c =
    let s = g.D.Debugged.subject c.args.run.now in
    let before : Outside = record {
      files = g.K.Keeper.files c.args.keeper.now;
      counts = g.K.Keeper.counts c.args.keeper.now;
      streams = record { left = g.I.Source.left c.args.console.now; given = g.O.Printer.given c.args.screen.now };
    } in
    let given' = g.O.Printer.given c.give_reply.new.screen in
    let start = c.args.start.now in
    let after : Outside = record {
      files = g.K.Keeper.files c.answer_lines.new.keeper;
      counts = g.K.Keeper.counts c.answer_lines.new.keeper;
      streams = record { left = g.I.Source.left c.answer_lines.new.console; given = g.O.Printer.given c.answer_lines.new.screen };
    } in
    let text : text_of_reply s (said_in_dialog c.open.new.dialog) c.in-Ok-open.opening ≡ opening_of s start = c.in-Ok-open.ensures.text in
    let opened : Opened s start before given' = record {
      fits = c.requires.fits;
      gave = subst (λ (x : List ℕ). GaveAll before.streams.given given' x) text c.in-Ok-give_reply.ensures.ok;
    } in
    went_so s start (g.D.Debugged.reads c.args.run.now) given' before after c.answer_lines.result opened c.answer_lines.ensures.goes
