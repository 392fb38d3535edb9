use Rattle.std.proofs.Common.{if◌then◌else◌, ◌∙◌, ◌≡◌, Bool, ap, false, refl, sym, true}
use Rattle.core_program.specs.{Accesses.locate, Packing.pack, ProgramRows.ProgramRows, Statements.finally, Tree.bind}
use Rattle.evaluator.proofs.transfers.begin_pack.Goals as goal
use Rattle.evaluator.specs.{Rest.first_located, Rest.here, Rest.waiting, declared.tasks.ArrayRows.ArrayRows, declared.tasks.Home.Home}

pack_begins : (p : ProgramRows) (home : Home) (packing : Bool) (rows : ArrayRows)
    → pack p (here home rows.line) packing rows.unpacked rows.index rows.packed (finally (here home rows.line))
    ≡ locate (if packing then rows.unpacked else rows.packed) (here home rows.line) (first_located p home packing rows)
pack_begins p home true rows = refl
pack_begins p home false rows = refl

pub returns-clause-turns : goal.returns-clause-turns
returns-clause-turns c p m u same =
    let a = c.args.body.now in
    c.wait.ensures.turns p m u (same ∙ ap (λ t. bind t (waiting p a)) (pack_begins p a.home c.args.packing c.args.rows)
    ∙ ap (λ r. bind (locate r (here a.home c.args.rows.line) (first_located p a.home c.args.packing c.args.rows)) (waiting p a)) (sym c.first_row.ensures))
