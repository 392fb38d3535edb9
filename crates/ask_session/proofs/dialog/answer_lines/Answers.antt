use Rattle.std.proofs.Common.{◌∙◌, ◌≡◌, [], ap, append-nil, false, refl, sym}
use Rattle.edge_ports.{proofs.PiecesAddUp.moves_more, proofs.PiecesAddUp.took_nothing, specs.Lines.handed_lines}
use Rattle.ask_session.proofs.DialogEnds.{answered_more, first_stage, heard_of, none_answered, stage, talk_ends, talked_of}
use Rattle.ask_session.proofs.dialog.answer_lines.Goals as goal
use Rattle.ask_session.specs.{Desks.held_on, Outside.Outside, Turned.DialogStage}

pub lines-init : goal.lines-init
lines-init g c =
    let left = g.I.Source.left c.args.console.now in
    let outside : Outside = record {
      files = g.K.Keeper.files c.args.keeper.now;
      counts = g.K.Keeper.counts c.args.keeper.now;
      streams = record { left = left; given = g.O.Printer.given c.args.screen.now };
    } in
    let lines = c.args.lines.now in
    let none : handed_lines lines ≡ [] = ap handed_lines c.requires.fresh in
    let not_ended : lines.ended ≡ false = ap (λ l. l.ended) c.requires.fresh in
    record {
      answered = none_answered (g.D.Debugged.reads c.args.run.now) (g.D.Debugged.subject c.args.run.now) c.args.start.now outside
          (held_on (g.D.Debugged.tables c.args.run.now) c.args.desk.now) lines c.requires.first none;
      moved = record { more = []; grown = sym (append-nil lines.taken); took = took_nothing left };
      at_end = λ ended. absurd (let x : ⊥ = cc in x);
      console_faults = refl;
      dialog = c.requires.dialog;
      screen_faults = refl;
      loan = refl;
    }

pub lines-preserved : goal.lines-preserved
lines-preserved g c =
    let s = g.D.Debugged.subject c.args.run.now in
    let reads = g.D.Debugged.reads c.args.run.now in
    let tables = g.D.Debugged.tables c.args.run.now in
    let left = g.I.Source.left in
    let given = g.O.Printer.given in
    let files = g.K.Keeper.files in
    let counts = g.K.Keeper.counts in
    let before : Outside = record {
      files = files c.args.keeper.now;
      counts = counts c.args.keeper.now;
      streams = record { left = left c.args.console.now; given = given c.args.screen.now };
    } in
    let between : Outside = record {
      files = files c.lines.keeper;
      counts = counts c.lines.keeper;
      streams = record { left = left c.lines.console; given = given c.lines.screen };
    } in
    let after : Outside = record {
      files = files c.turn.new.keeper;
      counts = counts c.turn.new.keeper;
      streams = record { left = left c.turn.new.console; given = given c.turn.new.screen };
    } in
    let first : DialogStage = first_stage reads s c.args.start.now before c.args.lines.now in
    let old : DialogStage = stage (held_on tables c.lines.desk) between c.lines.lines in
    let new : DialogStage = stage (held_on tables c.turn.new.desk) after c.turn.new.lines in
    record {
      answered = answered_more reads s c.args.start.now first old new tt c.lines.invariant.answered c.in-Ok.ensures.turned;
      moved = moves_more c.lines.invariant.moved c.turn.ensures.moved;
      at_end = c.turn.ensures.at_end c.lines.invariant.at_end;
      console_faults = c.in-Ok.ensures.console_faults ∙ c.lines.invariant.console_faults;
      dialog = c.turn.ensures.dialog;
      screen_faults = c.in-Ok.ensures.screen_faults ∙ c.lines.invariant.screen_faults;
      loan = c.turn.ensures.loan ∙ c.lines.invariant.loan;
    }

pub returns-in-Err-clause-goes : goal.returns-in-Err-clause-goes
returns-in-Err-clause-goes g c =
    let s = g.D.Debugged.subject c.args.run.now in
    let reads = g.D.Debugged.reads c.args.run.now in
    let tables = g.D.Debugged.tables c.args.run.now in
    let left = g.I.Source.left in
    let given = g.O.Printer.given in
    let files = g.K.Keeper.files in
    let counts = g.K.Keeper.counts in
    let before : Outside = record {
      files = files c.args.keeper.now;
      counts = counts c.args.keeper.now;
      streams = record { left = left c.args.console.now; given = given c.args.screen.now };
    } in
    let between : Outside = record {
      files = files c.lines.keeper;
      counts = counts c.lines.keeper;
      streams = record { left = left c.lines.console; given = given c.lines.screen };
    } in
    let after : Outside = record {
      files = files c.turn.new.keeper;
      counts = counts c.turn.new.keeper;
      streams = record { left = left c.turn.new.console; given = given c.turn.new.screen };
    } in
    let first : DialogStage = first_stage reads s c.args.start.now before c.args.lines.now in
    let old : DialogStage = stage (held_on tables c.lines.desk) between c.lines.lines in
    let new : DialogStage = stage (held_on tables c.turn.new.desk) after c.turn.new.lines in
    let ends = talk_ends reads s c.args.start.now first old new c.lines.invariant.answered c.turn.ensures.consistent c.in-Err.ending c.in-Err.ensures.turned in
    let moved = moves_more c.lines.invariant.moved c.turn.ensures.moved in
    talked_of reads s c.args.start.now before after ends
    (heard_of c.args.lines.now.taken c.turn.new.lines (left c.args.console.now) (left c.turn.new.console) (ap (λ l. l.taken) c.requires.fresh)
    moved c.turn.ensures.consistent (c.turn.ensures.at_end c.lines.invariant.at_end))
