use Rattle.std.proofs.Common.{◌∙◌, ◌≡◌, ℕ, List, Some, ap, arith, sym}
use Rattle.subtree_weights.specs.RunColumns.{Columns}
use Rattle.answer_book.specs.Entries.{entry_at, entry_saying}
use Rattle.optimal_query.proofs.Changes.{entry_before, stays_so, stood, were_withdrawn}
use Rattle.optimal_query.proofs.search.Debug.take_back.Goals as goal
use Rattle.optimal_query.specs.{Changed.change_steps, Changed.most_steps_at, Search.Search}

pub follow-requires-clause-were : goal.follow-requires-clause-were
follow-requires-clause-were g c =
    let book = c.self.inside.book in
    let found = rw c.in-Ok.ensures.taken_back at c.entry-what.ensures.found in
    let named = rw c.in-Ok.ensures.taken_back at c.entry-what.ensures.named in
    let before = entry_before book.entries c.args.entry c.entry-what.result (stood book c.args.entry (sym c.in-Ok.ensures.answer)) found in
    rw c.in-Ok.ensures.taken_back
    (were_withdrawn c.self.inside.calls.now book c.self.inside.markings c.args.entry c.entry-what.result.what c.self.invariant before named)

pub returns-in-Ok-clause-cost : goal.returns-in-Ok-clause-cost
returns-in-Ok-clause-cost g c =
    let book = c.self.inside.book in
    let what = c.entry-what.result.what in
    let found = rw c.in-Ok.ensures.taken_back at c.entry-what.ensures.found in
    let before = entry_before book.entries c.args.entry c.entry-what.result (stood book c.args.entry (sym c.in-Ok.ensures.answer)) found in
    let entry : entry_at c.args.self.now.book.entries c.args.entry ≡ Some (entry_saying what) =
    sym (ap (λ (s : Search). entry_at s.book.entries c.args.entry) c.self.view_is) ∙ before in
    let depth : c.args.self.now.depth ≡ c.self.inside.markings.columns.depth =
    sym (ap (λ (s : Search). s.depth) c.self.view_is) ∙ ap (λ (k : Columns). k.depth) c.self.invariant.columns in
    let most : most_steps_at c.args.self.now (entry_at c.args.self.now.book.entries c.args.entry)
    ≡ change_steps c.self.inside.markings.columns.depth book.routine what =
    ap (most_steps_at c.args.self.now) entry ∙ ap (λ (d : List ℕ). change_steps d c.args.self.now.book.routine what) depth
    ∙ ap (λ (s : Search). change_steps c.self.inside.markings.columns.depth s.book.routine what) (sym c.self.view_is) in
    omega (arith, rw c.in-Ok.ensures.taken_back at c.follow.ensures.cost, most)

pub returns-in-Ok-clause-mark_stays : goal.returns-in-Ok-clause-mark_stays
returns-in-Ok-clause-mark_stays g c stays =
    let book = c.self.inside.book in
    let found = rw c.in-Ok.ensures.taken_back at c.entry-what.ensures.found in
    let named = rw c.in-Ok.ensures.taken_back at c.entry-what.ensures.named in
    let before = entry_before book.entries c.args.entry c.entry-what.result (stood book c.args.entry (sym c.in-Ok.ensures.answer)) found in
    (rw c.in-Ok.ensures.taken_back at c.follow.ensures.costs_nothing)
    (stays_so c.self.inside.calls.now book c.self.inside.markings c.args.self.now c.args.entry c.entry-what.result.what c.self.invariant
    (sym (ap (λ (s : Search). s.book) c.self.view_is)) before named stays)
