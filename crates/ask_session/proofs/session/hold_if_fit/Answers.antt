use Rattle.std.proofs.Common.{◌∙◌, [], ℕ, List, append-nil, subst, sym}
use Rattle.edge_ports.specs.Told.{GaveAll, GavePrefix}
use Rattle.dialog_replies.specs.{Fit.misfit, Lines.misfit_line}
use Rattle.ask_session.proofs.SessionsAreHeld.{ended_at_once, fits_by, nothing, printed_misfit, refused_so, screen_at_once, unfit_by}
use Rattle.ask_session.proofs.session.hold_if_fit.Goals as goal
use Rattle.ask_session.specs.{Heard.lines_in, Outside.Outside}

pub hold_session-requires-clause-fits : goal.hold_session-requires-clause-fits
hold_session-requires-clause-fits g c =
    fits_by (misfit (g.D.Debugged.subject c.args.run.now) c.args.start.now) (sym c.in-Ok-None.field-0-is ∙ c.in-Ok-None.ensures)

pub returns-in-Ok-clause-goes : goal.returns-in-Ok-clause-goes
returns-in-Ok-clause-goes g c =
    let s = g.D.Debugged.subject c.args.run.now in
    let before : Outside = record {
      files = g.K.Keeper.files c.args.keeper.now;
      counts = g.K.Keeper.counts c.args.keeper.now;
      streams = record { left = g.I.Source.left c.args.console.now; given = g.O.Printer.given c.args.screen.now };
    } in
    let given' = g.O.Printer.given c.print_all.new.printer in
    let why = unfit_by (misfit s c.args.start.now) c.in-Ok-Some.line (sym c.in-Ok-Some.field-0-is ∙ c.in-Ok-Some.ensures) in
    refused_so s c.args.start.now (g.D.Debugged.reads c.args.run.now) before given' why.0 why.1
    (subst (λ (x : List ℕ). GaveAll before.streams.given given' x) (c.as_slice.ensures ∙ why.2) c.in-Ok.ensures.ok)

pub returns-in-Ok-Some-clause-goes : goal.returns-in-Ok-Some-clause-goes
returns-in-Ok-Some-clause-goes g c =
    let s = g.D.Debugged.subject c.args.run.now in
    let before : Outside = record {
      files = g.K.Keeper.files c.args.keeper.now;
      counts = g.K.Keeper.counts c.args.keeper.now;
      streams = record { left = g.I.Source.left c.args.console.now; given = g.O.Printer.given c.args.screen.now };
    } in
    let given' = g.O.Printer.given c.print_all.new.printer in
    let why = unfit_by (misfit s c.args.start.now) c.in-Ok-Some.line (sym c.in-Ok-Some.field-0-is ∙ c.in-Ok-Some.ensures) in
    screen_at_once s c.args.start.now (g.D.Debugged.reads c.args.run.now) before given' (misfit_line why.0) []
    (printed_misfit s c.args.start.now why.0 [] (lines_in nothing) why.1 ∙ sym (append-nil (misfit_line why.0)))
    (subst (λ (x : List ℕ). GavePrefix before.streams.given given' x) (c.as_slice.ensures ∙ why.2) c.in-Err-print_all.ensures.failed)

pub returns-clause-goes : goal.returns-clause-goes
returns-clause-goes g c =
    let s = g.D.Debugged.subject c.args.run.now in
    let before : Outside = record {
      files = g.K.Keeper.files c.args.keeper.now;
      counts = g.K.Keeper.counts c.args.keeper.now;
      streams = record { left = g.I.Source.left c.args.console.now; given = g.O.Printer.given c.args.screen.now };
    } in
    ended_at_once s c.args.start.now (g.D.Debugged.reads c.args.run.now) before
