use Rattle.std.proofs.Common.{◌<◌, ◌∙◌, arith, length, sym}
use Rattle.answer_book.proofs.LastByLinks.{has_number, link_inside, walk_begins, walk_falls, walk_goes_on}
use Rattle.answer_book.proofs.entry_links.EntryLinks.last.Goals as goal
use Rattle.answer_book.specs.Links.{AreLinked, Links}

pub back-init : goal.back-init
back-init c =
    let links : Links = record { subject = c.self.inside.subject; before = c.self.inside.before.items; last = c.self.inside.last.items } in
    let linked : AreLinked c.args.entries.now links = rw (← c.self.view_is) at c.requires.linked in
    let inside : c.args.chain < length links.last = rw (← c.self.view_is) at c.requires.a_chain in
    walk_begins c.args.entries.now links c.args.chain c.index-number.result.now linked inside c.index-number.ensures

pub index-number-requires-in-back : goal.index-number-requires-in-back
index-number-requires-in-back c =
    let links : Links = record { subject = c.self.inside.subject; before = c.self.inside.before.items; last = c.self.inside.last.items } in
    let linked : AreLinked c.args.entries.now links = rw (← c.self.view_is) at c.requires.linked in
    let some = has_number c.args.entries.now c.back.number (sym c.was_taken_back.ensures ∙ c.back-test.true) in
    let inside = link_inside c.args.entries.now links c.args.chain c.back.number linked c.back.invariant some in
    omega (arith, inside, c.self.inside.before.ok.0)

pub back-preserved : goal.back-preserved
back-preserved c =
    let links : Links = record { subject = c.self.inside.subject; before = c.self.inside.before.items; last = c.self.inside.last.items } in
    let linked : AreLinked c.args.entries.now links = rw (← c.self.view_is) at c.requires.linked in
    walk_goes_on c.args.entries.now links c.args.chain c.back.number c.index-number-in-back.result.now linked c.back.invariant
    (sym c.was_taken_back.ensures ∙ c.back-test.true) c.index-number-in-back.ensures

pub back-smaller : goal.back-smaller
back-smaller c =
    let links : Links = record { subject = c.self.inside.subject; before = c.self.inside.before.items; last = c.self.inside.last.items } in
    let linked : AreLinked c.args.entries.now links = rw (← c.self.view_is) at c.requires.linked in
    walk_falls c.args.entries.now links c.args.chain c.back.number c.index-number-in-back.result.now linked c.back.invariant
    (sym c.was_taken_back.ensures ∙ c.back-test.true) c.index-number-in-back.ensures

pub returns-clause-last : goal.returns-clause-last
returns-clause-last c =
    let links : Links = record { subject = c.self.inside.subject; before = c.self.inside.before.items; last = c.self.inside.last.items } in
    rw (← c.self.view_is) (record { leads = c.back.invariant; stands = sym c.was_taken_back.ensures ∙ c.back-test.false })
