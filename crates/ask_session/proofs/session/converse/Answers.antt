use Rattle.std.proofs.Common.{subst}
use Rattle.dialog_replies.specs.Fit.{misfit}
use Rattle.ask_session.proofs.TranscriptIsGiven.{Cause, Closed, ScreenStayed, done_or_memory, refused_or_memory, spent_or_memory, told_so}
use Rattle.ask_session.proofs.session.converse.Goals as goal
use Rattle.ask_session.specs.{Heard.RefusedBy, Outside.Outside}

pub returns-clause-transcript : goal.returns-clause-transcript
returns-clause-transcript g c = λ bytes told.
    let s = g.D.Debugged.subject c.args.run.now in
    let left = g.I.Source.left in
    let w = c.hold_if_fit.ensures.goes in
    let before : Outside = record {
      files = g.K.Keeper.files c.args.keeper.now;
      counts = g.K.Keeper.counts c.args.keeper.now;
      streams = record { left = g.I.Source.left c.args.console.now; given = g.O.Printer.given c.args.screen.now };
    } in
    let after : Outside = record {
      files = g.K.Keeper.files c.hold_if_fit.new.keeper;
      counts = g.K.Keeper.counts c.hold_if_fit.new.keeper;
      streams = record { left = left c.hold_if_fit.new.console; given = g.O.Printer.given c.hold_if_fit.new.screen };
    } in
    let t =
    told_so s c.args.start.now (left c.args.console.now) (left c.hold_if_fit.new.console) bytes told (g.D.Debugged.reads c.args.run.now) before after
    c.hold_if_fit.result w w.is_heard in
    (w.granted, w.read, t.0, t.1, t.2, t.3, w.counts)

pub returns-clause-complete : goal.returns-clause-complete
returns-clause-complete g c = λ bytes told ends fits calm still.
    let s = g.D.Debugged.subject c.args.run.now in
    let left = g.I.Source.left in
    let w = c.hold_if_fit.ensures.goes in
    let closed : Closed c.hold_if_fit.result (g.I.Source.faults c.args.console.now) (g.I.Source.faults c.hold_if_fit.new.console)
    (g.O.Printer.faults c.args.screen.now) (g.O.Printer.faults c.hold_if_fit.new.screen) = record {
      console_counted = c.hold_if_fit.ensures.console_faults;
      console_stayed = calm;
      screen_counted = c.hold_if_fit.ensures.screen_faults;
      screen_stayed = still;
    } in
    let cause : Cause s c.args.start.now (left c.args.console.now) (left c.hold_if_fit.new.console) bytes told c.hold_if_fit.result = record {
      heard = w.heard;
      is_heard = w.is_heard;
      ended = w.ended;
      refused = w.refused;
      fits = fits;
    } in
    done_or_memory s c.args.start.now (left c.args.console.now) (left c.hold_if_fit.new.console) bytes told c.hold_if_fit.result cause closed ends

pub returns-clause-limit : goal.returns-clause-limit
returns-clause-limit g c = λ bytes told on fits calm still.
    let s = g.D.Debugged.subject c.args.run.now in
    let left = g.I.Source.left in
    let w = c.hold_if_fit.ensures.goes in
    let closed : Closed c.hold_if_fit.result (g.I.Source.faults c.args.console.now) (g.I.Source.faults c.hold_if_fit.new.console)
    (g.O.Printer.faults c.args.screen.now) (g.O.Printer.faults c.hold_if_fit.new.screen) = record {
      console_counted = c.hold_if_fit.ensures.console_faults;
      console_stayed = calm;
      screen_counted = c.hold_if_fit.ensures.screen_faults;
      screen_stayed = still;
    } in
    let cause : Cause s c.args.start.now (left c.args.console.now) (left c.hold_if_fit.new.console) bytes told c.hold_if_fit.result = record {
      heard = w.heard;
      is_heard = w.is_heard;
      ended = w.ended;
      refused = w.refused;
      fits = fits;
    } in
    spent_or_memory s c.args.start.now (left c.args.console.now) (left c.hold_if_fit.new.console) bytes told c.hold_if_fit.result cause closed on

pub returns-clause-unfit : goal.returns-clause-unfit
returns-clause-unfit g c = λ some still.
    let s = g.D.Debugged.subject c.args.run.now in
    let stayed : ScreenStayed c.hold_if_fit.result (g.O.Printer.faults c.args.screen.now) (g.O.Printer.faults c.hold_if_fit.new.screen) =
    record { counted = c.hold_if_fit.ensures.screen_faults; stayed = still } in
    refused_or_memory c.hold_if_fit.result (misfit s c.args.start.now) c.hold_if_fit.ensures.goes.refused some stayed

pub returns-clause-refused : goal.returns-clause-refused
returns-clause-refused g c = λ is.
    subst (λ e. RefusedBy e (misfit (g.D.Debugged.subject c.args.run.now) c.args.start.now)) is c.hold_if_fit.ensures.goes.refused
