use Rattle.std.proofs.Common.{ℕ, Err, List, ap, subst, sym}
use Rattle.edge_ports.specs.declared.ports.FetchFault.{FetchFault}
use Rattle.dialog_replies.specs.References.{reading_by}
use Rattle.ask_session.proofs.LineIsAnswered.{read_fetched, read_missing}
use Rattle.ask_session.proofs.dialog.fetch_reading.Goals as goal
use Rattle.ask_session.specs.Wishes.{IsMissing, KeeperAt}

pub returns-in-Ok-read_reference-clause-read : goal.returns-in-Ok-read_reference-clause-read
returns-in-Ok-read_reference-clause-read g c =
    let reads = g.D.Debugged.reads c.args.run.now in
    let before : KeeperAt = record { files = g.K.Keeper.files c.args.keeper.now; counts = g.K.Keeper.counts c.args.keeper.now } in
    let now : KeeperAt = record { files = g.K.Keeper.files c.fetch.new.self; counts = g.K.Keeper.counts c.fetch.new.self } in
    let reading = reading_by (g.D.Debugged.tables c.args.run.now) c.in-Ok-read_reference.reading in
    read_fetched reads c.args.name.now before now c.in-Ok.bytes reading
    (subst (λ (bytes : List ℕ). reads bytes reading) c.as_slice.ensures c.in-Ok-read_reference.ensures)
    (record { held = c.in-Ok.ensures.found; short = c.in-Ok.ensures.fits }) (c.in-Ok.ensures.files, c.in-Ok.ensures.counts)

pub returns-in-Err-Absent-clause-read : goal.returns-in-Err-Absent-clause-read
returns-in-Err-Absent-clause-read g c =
    let before : KeeperAt = record { files = g.K.Keeper.files c.args.keeper.now; counts = g.K.Keeper.counts c.args.keeper.now } in
    let now : KeeperAt = record { files = g.K.Keeper.files c.fetch.new.self; counts = g.K.Keeper.counts c.fetch.new.self } in
    read_missing (g.D.Debugged.reads c.args.run.now) c.args.name.now before now c.in-Err-Absent.field-0
    (subst (λ (why : FetchFault). IsMissing why c.args.name.now before.files) (sym c.in-Err-Absent.field-0-is)
    (c.in-Err-Absent.ensures.absent (ap Err c.in-Err-Absent.field-0-is)))
    (c.in-Err-Absent.ensures.files, c.in-Err-Absent.ensures.counts)

pub returns-in-Err-TooLong-clause-read : goal.returns-in-Err-TooLong-clause-read
returns-in-Err-TooLong-clause-read g c =
    let before : KeeperAt = record { files = g.K.Keeper.files c.args.keeper.now; counts = g.K.Keeper.counts c.args.keeper.now } in
    let now : KeeperAt = record { files = g.K.Keeper.files c.fetch.new.self; counts = g.K.Keeper.counts c.fetch.new.self } in
    read_missing (g.D.Debugged.reads c.args.run.now) c.args.name.now before now c.in-Err-TooLong.field-0
    (subst (λ (why : FetchFault). IsMissing why c.args.name.now before.files) (sym c.in-Err-TooLong.field-0-is)
    (c.in-Err-TooLong.ensures.too_long c.in-Err-TooLong.field-0-0 (ap Err c.in-Err-TooLong.field-0-is)).1)
    (c.in-Err-TooLong.ensures.files, c.in-Err-TooLong.ensures.counts)

pub returns-in-Err-Failed-clause-read : goal.returns-in-Err-Failed-clause-read
returns-in-Err-Failed-clause-read g c =
    let before : KeeperAt = record { files = g.K.Keeper.files c.args.keeper.now; counts = g.K.Keeper.counts c.args.keeper.now } in
    let now : KeeperAt = record { files = g.K.Keeper.files c.fetch.new.self; counts = g.K.Keeper.counts c.fetch.new.self } in
    read_missing (g.D.Debugged.reads c.args.run.now) c.args.name.now before now c.in-Err-Failed.field-0
    (subst (λ (why : FetchFault). IsMissing why c.args.name.now before.files) (sym c.in-Err-Failed.field-0-is) tt)
    (c.in-Err-Failed.ensures.files, c.in-Err-Failed.ensures.counts)
