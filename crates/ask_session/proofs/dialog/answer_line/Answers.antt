use Rattle.std.proofs.Common.{◌∙◌, ◌≡◌, ap, refl, true}
use Rattle.dialog_replies.specs.{Kept.said_in_dialog, Prepared.text_of_reply, Start.saved_text, Subject.calls_recorded}
use Rattle.dialog_replies.specs.declared.instructions.Instruction.{Instruction}
use Rattle.ask_session.proofs.LineIsAnswered.{Asks, breaks_off, ends_by, errand_so, refers_so, replies_so, text_prepared, text_stays}
use Rattle.ask_session.proofs.dialog.answer_line.Goals as goal
use Rattle.ask_session.specs.{Desks.held_on, Dialog.ToFetch, Dialog.ToStore, Turned.DialogMoment, Turned.with_text, Wishes.FetchFile, Wishes.StoreFile}

pub returns-in-Quit-clause-answers : goal.returns-in-Quit-clause-answers
returns-in-Quit-clause-answers g c =
    (ends_by c.args.line.now Instruction.Quit (record { short = c.requires.short; is = c.in-Quit.ensures }) true refl, refl)

pub returns-in-Save-clause-answers : goal.returns-in-Save-clause-answers
returns-in-Save-clause-answers g c =
    let files = g.K.Keeper.files in
    let counts = g.K.Keeper.counts in
    let tables = g.D.Debugged.tables c.args.run.now in
    let old : DialogMoment = record { held = held_on tables c.args.desk.now; files = files c.args.keeper.now; counts = counts c.args.keeper.now } in
    let new : DialogMoment = record { held = held_on tables c.save.new.desk; files = files c.save.new.keeper; counts = counts c.save.new.keeper } in
    let s = g.D.Debugged.subject c.args.run.now in
    let same : with_text s new.held.said c.as_reply.result ≡ c.save.result =
    ap (with_text s new.held.said) c.as_reply.ensures ∙ text_stays _ _ _ s new.held.said c.save.result in
    rw same
    (errand_so (g.D.Debugged.reads c.args.run.now) s c.args.start.now (record { line = c.args.line.now; moment = old }) new c.save.result
    (Instruction.Save c.in-Save.file) (ToStore c.in-Save.file)
    (StoreFile (record { file = c.in-Save.file; text = saved_text s c.args.start.now old.held.said }))
    (record { short = c.requires.short; is = c.in-Save.ensures }) (refl, refl, refl, refl) (record { goes = c.save.ensures.goes }))

pub returns-in-Save-clause-prepared : goal.returns-in-Save-clause-prepared
returns-in-Save-clause-prepared g c =
    rw c.as_reply.ensures
    (text_prepared (g.D.Debugged.prepared c.args.run.now) (calls_recorded (g.D.Debugged.subject c.args.run.now)) c.save.result)

pub returns-in-Reference-clause-answers : goal.returns-in-Reference-clause-answers
returns-in-Reference-clause-answers g c =
    let files = g.K.Keeper.files in
    let counts = g.K.Keeper.counts in
    let tables = g.D.Debugged.tables c.args.run.now in
    let old : DialogMoment = record { held = held_on tables c.args.desk.now; files = files c.args.keeper.now; counts = counts c.args.keeper.now } in
    let new : DialogMoment = record {
      held = held_on tables c.read_reference.new.desk;
      files = files c.read_reference.new.keeper;
      counts = counts c.read_reference.new.keeper;
    } in
    let s = g.D.Debugged.subject c.args.run.now in
    let same : with_text s new.held.said c.as_reply-in-Reference.result ≡ c.read_reference.result =
    ap (with_text s new.held.said) c.as_reply-in-Reference.ensures ∙ text_stays _ _ _ s new.held.said c.read_reference.result in
    rw same
    (errand_so (g.D.Debugged.reads c.args.run.now) s c.args.start.now (record { line = c.args.line.now; moment = old }) new c.read_reference.result
    (Instruction.Reference c.in-Reference.file) (ToFetch c.in-Reference.file) (FetchFile c.in-Reference.file)
    (record { short = c.requires.short; is = c.in-Reference.ensures }) (refl, refl, refl, refl) (record { goes = c.read_reference.ensures.goes }))

pub returns-in-Reference-clause-prepared : goal.returns-in-Reference-clause-prepared
returns-in-Reference-clause-prepared g c =
    rw c.as_reply-in-Reference.ensures
    (text_prepared (g.D.Debugged.prepared c.args.run.now) (calls_recorded (g.D.Debugged.subject c.args.run.now)) c.read_reference.result)

pub returns-in-Ok-clause-answers : goal.returns-in-Ok-clause-answers
returns-in-Ok-clause-answers g c =
    let tables = g.D.Debugged.tables c.args.run.now in
    let line : Asks c.args.line.now (Instruction.Refer c.in-Refer.call) = record { short = c.requires.short; is = c.in-Refer.ensures } in
    let old : DialogMoment = record {
      held = held_on tables c.args.desk.now;
      files = g.K.Keeper.files c.args.keeper.now;
      counts = g.K.Keeper.counts c.args.keeper.now;
    } in
    let s = g.D.Debugged.subject c.args.run.now in
    refers_so (g.D.Debugged.reads c.args.run.now) s c.args.start.now (record { line = c.args.line.now; moment = old }) (said_in_dialog c.refer.new.dialog)
    (text_of_reply s (said_in_dialog c.refer.new.dialog) c.in-Ok.reply) c.in-Refer.call line c.in-Ok.ensures.outcome

pub returns-in-Err-clause-answers : goal.returns-in-Err-clause-answers
returns-in-Err-clause-answers g c =
    let old : DialogMoment = record {
      held = held_on (g.D.Debugged.tables c.args.run.now) c.args.desk.now;
      files = g.K.Keeper.files c.args.keeper.now;
      counts = g.K.Keeper.counts c.args.keeper.now;
    } in
    breaks_off (g.D.Debugged.reads c.args.run.now) (g.D.Debugged.subject c.args.run.now) c.args.start.now (record { line = c.args.line.now; moment = old })
    (said_in_dialog c.refer.new.dialog)

pub returns-in-Ok-answer-clause-answers : goal.returns-in-Ok-answer-clause-answers
returns-in-Ok-answer-clause-answers g c =
    let tables = g.D.Debugged.tables c.args.run.now in
    let line : Asks c.args.line.now (Instruction.Command c.in-Command.command) = record { short = c.requires.short; is = c.in-Command.ensures } in
    let old : DialogMoment = record {
      held = held_on tables c.args.desk.now;
      files = g.K.Keeper.files c.args.keeper.now;
      counts = g.K.Keeper.counts c.args.keeper.now;
    } in
    let s = g.D.Debugged.subject c.args.run.now in
    replies_so (g.D.Debugged.reads c.args.run.now) s c.args.start.now (record { line = c.args.line.now; moment = old }) (said_in_dialog c.answer.new.dialog)
    (text_of_reply s (said_in_dialog c.answer.new.dialog) c.in-Ok-answer.reply) c.in-Command.command line c.in-Ok-answer.ensures.outcome

pub returns-in-Err-answer-clause-answers : goal.returns-in-Err-answer-clause-answers
returns-in-Err-answer-clause-answers g c =
    let old : DialogMoment = record {
      held = held_on (g.D.Debugged.tables c.args.run.now) c.args.desk.now;
      files = g.K.Keeper.files c.args.keeper.now;
      counts = g.K.Keeper.counts c.args.keeper.now;
    } in
    breaks_off (g.D.Debugged.reads c.args.run.now) (g.D.Debugged.subject c.args.run.now) c.args.start.now (record { line = c.args.line.now; moment = old })
    (said_in_dialog c.answer.new.dialog)
