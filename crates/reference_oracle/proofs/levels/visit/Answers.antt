use Rattle.std.proofs.Common.{◌+◌, ◌<◌, ◌∙◌, ◌≡◌, None, Some, arith, length, refl, slice_set, subst}
use Rattle.std.proofs.lemmas.Option.{slice_get_read, unwrap_or-slice_get}
use Rattle.reference_oracle.proofs.LevelsFound.{no_level, one_level}
use Rattle.reference_oracle.proofs.levels.visit.Goals as goal
use Rattle.reference_oracle.specs.Levels.{Leads}

pub returns-clause-leads : goal.returns-clause-leads
returns-clause-leads c =
    let levels = c.args.levels.now in
    let inside = c.args.inside.now in
    let n = c.args.number in
    let ns = c.index-inside-number.result in
    let level : c.in-Some.greatest + 1 ≡ c.in-Some-checked_add.level = let e = c.in-Some-checked_add.ensures in omega (arith, e.1) in
    let within : n < length inside = let t = c.if-number-inside.false in omega (arith, t) in
    let here = slice_get_read inside (length inside) n ns refl within c.index-inside-number.is in
    let none = unwrap_or-slice_get levels n None ∙ no_level _ c.if-is_some.ensures in
    subst (λ l. Leads inside levels (slice_set levels n (Some l))) level
    (one_level inside levels c.requires.size n ns here none c.in-Some.greatest c.in-Some.ensures)
