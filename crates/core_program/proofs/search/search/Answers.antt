use Rattle.std.proofs.Common.{◌<◌, ◌∙◌, ℕ, ap, arith, length, subst, sym}
use Rattle.std.proofs.lemmas.Int.{to_z-of_z}
use mir.Syntax.{w64}
use mir.Val.{of_z, to_z}
use Rattle.core_program.proofs.ItemsInOrder.{one_item}
use Rattle.core_program.proofs.search.search.Goals as goal
use Rattle.core_program.specs.Lists.{Rises, found_by, sought_along}

pub returns-in-Found : goal.returns-in-Found
returns-in-Found c =
    let go = λ (next : ℕ). sought_along c.args.tables.now c.args.kind (length c.args.tables.now.rows) next c.args.wanted in
    let e = to_z-of_z w64 c.args.wanted c.ranges.wanted in
    sym (rw e at c.items.invariant ∙ one_item c.args.tables.now c.args.wanted c.args.kind c.items.at
    ∙ rw e at c.look.ensures.found go ∙ ap (λ s. found_by s go) c.in-Found.is)

pub returns-in-Nothing : goal.returns-in-Nothing
returns-in-Nothing c =
    let go = λ (next : ℕ). sought_along c.args.tables.now c.args.kind (length c.args.tables.now.rows) next c.args.wanted in
    let e = to_z-of_z w64 c.args.wanted c.ranges.wanted in
    sym (rw e at c.items.invariant ∙ one_item c.args.tables.now c.args.wanted c.args.kind c.items.at
    ∙ rw e at c.look.ensures.found go ∙ ap (λ s. found_by s go) c.in-Nothing.is)

pub returns-in-Broken : goal.returns-in-Broken
returns-in-Broken c =
    let go = λ (next : ℕ). sought_along c.args.tables.now c.args.kind (length c.args.tables.now.rows) next c.args.wanted in
    let e = to_z-of_z w64 c.args.wanted c.ranges.wanted in
    sym (rw e at c.items.invariant ∙ one_item c.args.tables.now c.args.wanted c.args.kind c.items.at
    ∙ rw e at c.look.ensures.found go ∙ ap (λ s. found_by s go) c.in-Broken.is)

pub items-smaller : goal.items-smaller
items-smaller c = let h : c.items.at < c.in-After.next = subst (Rises c.items.at) c.in-After.is c.look.ensures.rises in omega arith

pub items-preserved : goal.items-preserved
items-preserved c =
    let go = λ (next : ℕ). sought_along c.args.tables.now c.args.kind (length c.args.tables.now.rows) next (to_z w64 (of_z w64 c.args.wanted)) in
    c.items.invariant ∙ one_item c.args.tables.now (to_z w64 (of_z w64 c.args.wanted)) c.args.kind c.items.at
    ∙ c.look.ensures.found go ∙ ap (λ s. found_by s go) c.in-After.is
