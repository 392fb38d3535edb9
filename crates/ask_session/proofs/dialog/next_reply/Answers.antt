use Rattle.std.proofs.Common.{◌∙◌, ◌≡◌, ℕ, List, Ok, ap, subst}
use Rattle.edge_ports.specs.{Lines.handed_lines, Turns.HandedBy}
use Rattle.edge_ports.specs.declared.lines.Turn.{Turn, TheVariants.Line, TheVariants.TooLong}
use Rattle.dialog_replies.specs.Subject.{calls_recorded}
use Rattle.ask_session.proofs.LineIsAnswered.{next_of, text_prepared, text_stays}
use Rattle.ask_session.proofs.dialog.next_reply.Goals as goal
use Rattle.ask_session.specs.{Desks.held_on, Turned.AnswersLine, Turned.DialogMoment, Turned.with_text}

pub returns-in-Ok-Line-clause-reply : goal.returns-in-Ok-Line-clause-reply
returns-in-Ok-Line-clause-reply g c =
    let s = g.D.Debugged.subject c.args.run.now in
    let reads = g.D.Debugged.reads c.args.run.now in
    let tables = g.D.Debugged.tables c.args.run.now in
    let files = g.K.Keeper.files in
    let counts = g.K.Keeper.counts in
    let old : DialogMoment = record { held = held_on tables c.args.desk.now; files = files c.args.keeper.now; counts = counts c.args.keeper.now } in
    let new : DialogMoment = record {
      held = held_on tables c.answer_line.new.desk;
      files = files c.answer_line.new.keeper;
      counts = counts c.answer_line.new.keeper;
    } in
    let handed : HandedBy (Ok Line) c.next.new.self.line (handed_lines c.args.lines.now) (handed_lines c.next.new.self) =
    subst (λ (turn : Turn). HandedBy (Ok turn) c.next.new.self.line (handed_lines c.args.lines.now) (handed_lines c.next.new.self)) c.in-Ok-Line.field-0-is
    c.in-Ok-Line.ensures.lines in
    let told = with_text s new.held.said c.answer_line.result in
    let answers : AnswersLine reads s c.args.start.now (record { line = c.next.new.self.line; moment = old }) told new =
    subst (λ (line : List ℕ). AnswersLine reads s c.args.start.now (record { line = line; moment = old }) told new) c.line.ensures
    c.answer_line.ensures.answers in
    next_of reads s c.args.start.now (record { moment = old; lines = c.args.lines.now }) (record { moment = new; lines = c.next.new.self }) c.next.new.self.line
    told (handed, answers)

pub returns-in-Ok-TooLong-clause-reply : goal.returns-in-Ok-TooLong-clause-reply
returns-in-Ok-TooLong-clause-reply g c =
    let s = g.D.Debugged.subject c.args.run.now in
    let reads = g.D.Debugged.reads c.args.run.now in
    let tables = g.D.Debugged.tables c.args.run.now in
    let old : DialogMoment = record {
      held = held_on tables c.args.desk.now;
      files = g.K.Keeper.files c.args.keeper.now;
      counts = g.K.Keeper.counts c.args.keeper.now;
    } in
    let handed : HandedBy (Ok TooLong) c.next.new.self.line (handed_lines c.args.lines.now) (handed_lines c.next.new.self) =
    subst (λ (turn : Turn). HandedBy (Ok turn) c.next.new.self.line (handed_lines c.args.lines.now) (handed_lines c.next.new.self)) c.in-Ok-TooLong.field-0-is
    c.in-Ok-TooLong.ensures.lines in
    let same : with_text s old.held.said c.as_reply.result ≡ c.too_long.result =
    ap (with_text s old.held.said) c.as_reply.ensures ∙ text_stays _ _ _ s old.held.said c.too_long.result in
    rw same
    (next_of reads s c.args.start.now (record { moment = old; lines = c.args.lines.now }) (record { moment = old; lines = c.next.new.self }) handed.0
    c.too_long.result (handed.1, c.too_long.ensures.answers c.args.start.now (record { line = handed.0; moment = old }) handed.2))

pub returns-in-Ok-TooLong-clause-prepared : goal.returns-in-Ok-TooLong-clause-prepared
returns-in-Ok-TooLong-clause-prepared g c =
    rw c.as_reply.ensures
    (text_prepared (g.D.Debugged.prepared c.args.run.now) (calls_recorded (g.D.Debugged.subject c.args.run.now)) c.too_long.result)
