use Rattle.std.proofs.{Common.codes, Common.refl, Common.sym, lemmas.Result.on_ok_weaker, lemmas.Slice.Eq.bytes_eq-Decides}
use Rattle.session_file.proofs.PartsRead.{entries_more, field_more, replies_more}
use Rattle.session_file.proofs.parts.part_read.Goals as goal

pub returns-in-Ok-clause-read : goal.returns-in-Ok-clause-read
returns-in-Ok-clause-read c =
    let found = c.in-Ok.ensures.read in
    let is = (bytes_eq-Decides c.args.key.now (codes "entries")).0 (sym c.if-eq.ensures) in
    let new = record c.args.parts.now { entries = c.in-Ok.entries } in
    (found.0, found.1, λ members are. entries_more c.args.parts.now new c.args.key.now found.0 members are is refl found.2 refl)

pub returns-in-Ok-replies_read-clause-read : goal.returns-in-Ok-replies_read-clause-read
returns-in-Ok-replies_read-clause-read c =
    let found = c.in-Ok-replies_read.ensures.read in
    let is = (bytes_eq-Decides c.args.key.now (codes "replies")).0 (sym c.if-eq-2.ensures) in
    let new = record c.args.parts.now { replies = c.in-Ok-replies_read.replies } in
    (found.0, found.1, λ members are. replies_more c.args.parts.now new c.args.key.now found.0 members are is refl refl found.2)

pub returns-else-eq-2-clause-read : goal.returns-else-eq-2-clause-read
returns-else-eq-2-clause-read c =
    let new = record c.args.parts.now { fields = c.field_read.new.fields } in
    on_ok_weaker c.field_read.result (λ found. (
      found.0,
      found.1,
      λ members are.
          field_more c.args.parts.now new c.args.key.now found.0 members are (sym c.if-eq.ensures) (sym c.if-eq-2.ensures) found.2 refl refl,
    )) c.field_read.ensures.read
