use Rattle.std.proofs.Common.{◌∙◌, ◌≡◌, Some, ap, length, sym}
use Rattle.std.proofs.lemmas.Int.{to_z-of_z}
use mir.Syntax.{w64}
use Rattle.core_program.proofs.long_lists.LongLists.find_long.Goals as goal
use Rattle.core_program.specs.Lists.{found_at, or_in_tail, sought_along}

pub returns-in-Some : goal.returns-in-Some
returns-in-Some c =
    let e : found_at c.args.self.now.found c.args.tail c.args.wanted ≡ Some c.in-Some.found =
    rw (to_z-of_z w64 c.args.wanted c.ranges.wanted) at (sym c.get.ensures.value ∙ sym c.copied.ensures ∙ c.in-Some.is) in
    ap (λ o. or_in_tail o (sought_along c.args.tables.now c.args.kind (length c.args.tables.now.rows) c.args.tail c.args.wanted)) (sym e)
