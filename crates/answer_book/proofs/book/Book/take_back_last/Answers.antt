use Rattle.std.proofs.Common.{◌<◌, ap, arith, subst, sym}
use Rattle.answer_book.proofs.LastByLinks.{last_by_links, none_by_links}
use Rattle.answer_book.proofs.book.Book.take_back_last.Goals as goal
use Rattle.answer_book.specs.{Answers.number_or_fault, Links.IsLastOn}

pub returns-then-number-eq0-clause-answer : goal.returns-then-number-eq0-clause-answer
returns-then-number-eq0-clause-answer c =
    let entries = c.self.inside.entries in
    let last = subst (λ s. IsLastOn s entries 0 c.last-number.result) c.self.invariant.all.subject c.last-number.ensures.last in
    rw (← c.self.view_is) (sym (ap number_or_fault (none_by_links entries c.last-number.result last c.if-number-eq0.true)))

pub returns-clause-answer : goal.returns-clause-answer
returns-clause-answer c =
    let entries = c.self.inside.entries in
    let last = subst (λ s. IsLastOn s entries 0 c.last-number.result) c.self.invariant.all.subject c.last-number.ensures.last in
    let some : 0 < c.last-number.result = omega (arith, c.if-number-eq0.false) in
    rw (← c.self.view_is) (sym (ap number_or_fault (last_by_links entries c.last-number.result last some)))
