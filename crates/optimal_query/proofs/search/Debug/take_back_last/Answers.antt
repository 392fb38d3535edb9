use Rattle.std.proofs.Common.{◌∙◌, ◌≡◌, ℕ, List, Some, ap, arith, sym}
use Rattle.subtree_weights.specs.RunColumns.{Columns}
use Rattle.answer_book.specs.Entries.{entry_at, entry_saying}
use Rattle.optimal_query.proofs.Changes.{entry_before, last_stood, stays_so, were_withdrawn, without_length}
use Rattle.optimal_query.proofs.search.Debug.take_back_last.Goals as goal
use Rattle.optimal_query.specs.{Changed.change_steps, Changed.most_steps_at, Search.Search}

pub entry-what-requires-clause-from_one : goal.entry-what-requires-clause-from_one
entry-what-requires-clause-from_one g c = (last_stood c.self.inside.book c.in-Ok.number (sym c.in-Ok.ensures.answer)).from_one

pub entry-what-requires-clause-made : goal.entry-what-requires-clause-made
entry-what-requires-clause-made g c =
    let book = c.self.inside.book in
    let last = last_stood book c.in-Ok.number (sym c.in-Ok.ensures.answer) in
    rw c.in-Ok.ensures.taken_back (omega (arith, last.made, without_length book.entries c.in-Ok.number))

pub follow-requires-clause-were : goal.follow-requires-clause-were
follow-requires-clause-were g c =
    let book = c.self.inside.book in
    let found = rw c.in-Ok.ensures.taken_back at c.entry-what.ensures.found in
    let named = rw c.in-Ok.ensures.taken_back at c.entry-what.ensures.named in
    let last = last_stood book c.in-Ok.number (sym c.in-Ok.ensures.answer) in
    let before = entry_before book.entries c.in-Ok.number c.entry-what.result last.stands found in
    rw c.in-Ok.ensures.taken_back
    (were_withdrawn c.self.inside.calls.now book c.self.inside.markings c.in-Ok.number c.entry-what.result.what c.self.invariant before named)

pub returns-in-Ok-clause-cost : goal.returns-in-Ok-clause-cost
returns-in-Ok-clause-cost g c =
    let book = c.self.inside.book in
    let what = c.entry-what.result.what in
    let found = rw c.in-Ok.ensures.taken_back at c.entry-what.ensures.found in
    let last = last_stood book c.in-Ok.number (sym c.in-Ok.ensures.answer) in
    let before = entry_before book.entries c.in-Ok.number c.entry-what.result last.stands found in
    let entry : entry_at c.args.self.now.book.entries c.in-Ok.number ≡ Some (entry_saying what) =
    sym (ap (λ (s : Search). entry_at s.book.entries c.in-Ok.number) c.self.view_is) ∙ before in
    let depth : c.args.self.now.depth ≡ c.self.inside.markings.columns.depth =
    sym (ap (λ (s : Search). s.depth) c.self.view_is) ∙ ap (λ (k : Columns). k.depth) c.self.invariant.columns in
    let most : most_steps_at c.args.self.now (entry_at c.args.self.now.book.entries c.in-Ok.number)
    ≡ change_steps c.self.inside.markings.columns.depth book.routine what =
    ap (most_steps_at c.args.self.now) entry ∙ ap (λ (d : List ℕ). change_steps d c.args.self.now.book.routine what) depth
    ∙ ap (λ (s : Search). change_steps c.self.inside.markings.columns.depth s.book.routine what) (sym c.self.view_is) in
    omega (arith, rw c.in-Ok.ensures.taken_back at c.follow.ensures.cost, most)

pub returns-in-Ok-clause-mark_stays : goal.returns-in-Ok-clause-mark_stays
returns-in-Ok-clause-mark_stays g c stays =
    let book = c.self.inside.book in
    let found = rw c.in-Ok.ensures.taken_back at c.entry-what.ensures.found in
    let named = rw c.in-Ok.ensures.taken_back at c.entry-what.ensures.named in
    let last = last_stood book c.in-Ok.number (sym c.in-Ok.ensures.answer) in
    let before = entry_before book.entries c.in-Ok.number c.entry-what.result last.stands found in
    (rw c.in-Ok.ensures.taken_back at c.follow.ensures.costs_nothing)
    (stays_so c.self.inside.calls.now book c.self.inside.markings c.args.self.now c.in-Ok.number c.entry-what.result.what c.self.invariant
    (sym (ap (λ (s : Search). s.book) c.self.view_is)) before named stays)
