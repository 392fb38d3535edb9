use Rattle.std.proofs.Common.{◌<◌, ◌∙◌, ◌≡◌, ℕ, List, ap, arith, false, get_or, length, slice_index, sym, true}
use Rattle.std.proofs.lemmas.Option.{same_Some}
use Rattle.answer_book.proofs.MarkLemmas.{judged_at, judged_length, mark_judged, mark_unjudged, routine_known, trusted_at, trusted_length}
use Rattle.answer_book.proofs.book.Book.mark.Goals as goal
use Rattle.answer_book.specs.{Answers.Answers, Entries.standing_answers, Kept.answers_of}

pub get-requires : goal.get-requires
get-requires c =
    let book = answers_of c.self.inside in
    let kept = c.self.invariant.columns in
    let inside : c.args.call < length book.routine = rw (← c.self.view_is) at c.requires.a_call in
    let long = judged_length book c.self.inside.judged c.self.inside.trusted.items kept in
    record { a_call = omega arith }

pub index-requires : goal.index-requires
index-requires c =
    let book = answers_of c.self.inside in
    let kept = c.self.invariant.columns in
    let inside : c.args.call < length book.routine = rw (← c.self.view_is) at c.requires.a_call in
    let known = routine_known book c.self.inside.judged c.self.inside.trusted.items c.args.call kept inside in
    let long = trusted_length book c.self.inside.judged c.self.inside.trusted.items kept in
    let column : c.routine_column.result.now ≡ book.routine = c.routine_column.ensures ∙ c.requires.those_calls
    ∙ sym (ap (λ (b : Answers). b.routine) c.self.view_is) in
    rw column (omega (arith, c.self.inside.trusted.ok.0))

pub returns-in-Some : goal.returns-in-Some
returns-in-Some c =
    let book = answers_of c.self.inside in
    let kept = c.self.invariant.columns in
    let inside : c.args.call < length book.routine = rw (← c.self.view_is) at c.requires.a_call in
    let last = same_Some _ _ (sym (judged_at book c.self.inside.judged c.self.inside.trusted.items c.args.call kept inside) ∙ c.in-Some.ensures) in
    rw (← c.self.view_is) (c.mark.ensures ∙ sym (mark_judged book.routine (standing_answers book.entries) c.args.call c.in-Some.judgement last))

pub returns-then-index : goal.returns-then-index
returns-then-index c =
    let book = answers_of c.self.inside in
    let kept = c.self.invariant.columns in
    let answers = standing_answers book.entries in
    let inside : c.args.call < length book.routine = rw (← c.self.view_is) at c.requires.a_call in
    let known = routine_known book c.self.inside.judged c.self.inside.trusted.items c.args.call kept inside in
    let last = same_Some _ _ (sym (judged_at book c.self.inside.judged c.self.inside.trusted.items c.args.call kept inside) ∙ c.in-None.ensures) in
    let column : c.routine_column.result.now ≡ book.routine = c.routine_column.ensures ∙ c.requires.those_calls
    ∙ sym (ap (λ (b : Answers). b.routine) c.self.view_is) in
    let trusted =
    sym (trusted_at book c.self.inside.judged c.self.inside.trusted.items (slice_index book.routine c.args.call) c.index.result.now kept known)
    ∙ ap (λ (l : List ℕ). get_or c.self.inside.trusted.items (get_or l c.args.call 0) c.index.result.now) (sym column) ∙ sym c.index.ensures
    ∙ c.if-index.true in
    rw (← c.self.view_is) (sym (mark_unjudged book.routine answers c.args.call true last trusted))

pub returns-else-index : goal.returns-else-index
returns-else-index c =
    let book = answers_of c.self.inside in
    let kept = c.self.invariant.columns in
    let answers = standing_answers book.entries in
    let inside : c.args.call < length book.routine = rw (← c.self.view_is) at c.requires.a_call in
    let known = routine_known book c.self.inside.judged c.self.inside.trusted.items c.args.call kept inside in
    let last = same_Some _ _ (sym (judged_at book c.self.inside.judged c.self.inside.trusted.items c.args.call kept inside) ∙ c.in-None.ensures) in
    let column : c.routine_column.result.now ≡ book.routine = c.routine_column.ensures ∙ c.requires.those_calls
    ∙ sym (ap (λ (b : Answers). b.routine) c.self.view_is) in
    let trusted =
    sym (trusted_at book c.self.inside.judged c.self.inside.trusted.items (slice_index book.routine c.args.call) c.index.result.now kept known)
    ∙ ap (λ (l : List ℕ). get_or c.self.inside.trusted.items (get_or l c.args.call 0) c.index.result.now) (sym column) ∙ sym c.index.ensures
    ∙ c.if-index.false in
    rw (← c.self.view_is) (sym (mark_unjudged book.routine answers c.args.call false last trusted))
