use Rattle.std.proofs.Common.{ℕ, List, None, option_map, refl, subst}
use Rattle.dialog_replies.specs.References.{reading_by}
use Rattle.ask_session.proofs.LineIsAnswered.{fetch_said}
use Rattle.ask_session.proofs.dialog.read_reference.Goals as goal
use Rattle.ask_session.specs.{Desks.held_on, Turned.DialogMoment, Wishes.IsReadFrom, Wishes.KeeperAt}

pub returns-in-None-clause-goes : goal.returns-in-None-clause-goes
returns-in-None-clause-goes g c =
    let files = g.K.Keeper.files in
    let counts = g.K.Keeper.counts in
    let tables = g.D.Debugged.tables c.args.run.now in
    let reads = g.D.Debugged.reads c.args.run.now in
    let before : KeeperAt = record { files = files c.args.keeper.now; counts = counts c.args.keeper.now } in
    let now : KeeperAt = record { files = files c.fetch_reading.new.keeper; counts = counts c.fetch_reading.new.keeper } in
    let old : DialogMoment = record { held = held_on tables c.args.desk.now; files = before.files; counts = before.counts } in
    let new : DialogMoment = record { held = old.held; files = now.files; counts = now.counts } in
    let from : IsReadFrom reads c.args.file.now before None now =
    subst (λ (name : List ℕ). IsReadFrom reads name before None now) c.as_str.ensures
    (subst (λ reading. IsReadFrom reads c.as_str.result.now before (option_map (reading_by tables) reading) now) c.in-None.is
    c.in_ok-fetch_reading.ensures.read) in
    fetch_said reads c.args.file.now old new None c.file_line.result (
      record { from = from; held_is = refl },
      record { text = c.file_line.ensures.text; memory = c.file_line.ensures.memory },
    )
