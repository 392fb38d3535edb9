use Rattle.std.proofs.Common.{◌∙◌, [], ℕ, List, ap, arith, inl, option_map, refl, subst}
use Rattle.dialog_replies.specs.{Kept.said_in_dialog, Said.Said, Start.saved_text}
use Rattle.ask_session.proofs.{LineIsAnswered.save_out, LineIsAnswered.save_said, RepliesInOrder.none_read}
use Rattle.ask_session.proofs.dialog.save.Goals as goal
use Rattle.ask_session.specs.{Desks.held_on, Turned.DialogMoment, Wishes.FileAfter, Wishes.Save}

pub returns-in_default-clause-goes : goal.returns-in_default-clause-goes
returns-in_default-clause-goes g c = ([], none_read (g.D.Debugged.reads c.args.run.now), omega arith, refl, inl refl)

pub returns-in-Ok-store_text-clause-goes : goal.returns-in-Ok-store_text-clause-goes
returns-in-Ok-store_text-clause-goes g c =
    let files = g.K.Keeper.files in
    let counts = g.K.Keeper.counts in
    let tables = g.D.Debugged.tables c.args.run.now in
    let said = said_in_dialog c.args.desk.now.dialog in
    let stored = c.in-Ok-store_text.stored in
    let old : DialogMoment = record { held = held_on tables c.args.desk.now; files = files c.args.keeper.now; counts = counts c.args.keeper.now } in
    let new : DialogMoment = record {
      held = record { said = said_in_dialog c.session_text_of.new.dialog; reference = option_map tables c.args.desk.now.reference };
      files = files c.store_text.new.keeper;
      counts = counts c.store_text.new.keeper;
    } in
    let save : Save = record { file = c.args.file.now; text = saved_text (g.D.Debugged.subject c.args.run.now) c.args.start.now said } in
    let named : FileAfter stored (record { file = c.args.file.now; text = c.as_slice.result.now }) old.files new.files =
    subst (λ (name : List ℕ). FileAfter stored (record { file = name; text = c.as_slice.result.now }) old.files new.files) c.as_str.ensures
    c.in-Ok-store_text.ensures.file in
    let file : FileAfter stored save old.files new.files =
    subst (λ (text : List ℕ). FileAfter stored (record { file = c.args.file.now; text = text }) old.files new.files) (c.as_slice.ensures ∙ c.in-Ok.ensures.text)
    named in
    save_said (g.D.Debugged.reads c.args.run.now) save old new stored c.save_reply.result (
      record {
        file_is = file;
        counts_are = c.in-Ok-store_text.ensures.counts;
        held_is = ap (λ (es : Said). record { said = es; reference = old.held.reference }) c.in-Ok.ensures.said;
      },
      record { text = c.save_reply.ensures.text; memory = c.save_reply.ensures.memory },
    )

pub returns-clause-goes : goal.returns-clause-goes
returns-clause-goes g c =
    let files = g.K.Keeper.files in
    let counts = g.K.Keeper.counts in
    let tables = g.D.Debugged.tables c.args.run.now in
    let said = said_in_dialog c.args.desk.now.dialog in
    let old : DialogMoment = record { held = held_on tables c.args.desk.now; files = files c.args.keeper.now; counts = counts c.args.keeper.now } in
    let new : DialogMoment = record {
      held = record { said = said_in_dialog c.session_text_of.new.dialog; reference = option_map tables c.args.desk.now.reference };
      files = files c.store_text.new.keeper;
      counts = counts c.store_text.new.keeper;
    } in
    let save : Save = record { file = c.args.file.now; text = saved_text (g.D.Debugged.subject c.args.run.now) c.args.start.now said } in
    save_out (g.D.Debugged.reads c.args.run.now) save old new c.in-Err.ending c.in-Err.ensures.memory (c.in-Err.ensures.same_files, c.in-Err.ensures.one_store)
