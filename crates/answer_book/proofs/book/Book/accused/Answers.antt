use Rattle.std.proofs.Common.{◌∙◌}
use Rattle.answer_book.proofs.MarkLemmas.{accused_is}
use Rattle.answer_book.proofs.book.Book.accused.Goals as goal
use Rattle.answer_book.specs.Kept.{answers_of}

pub returns : goal.returns
returns c = rw (← c.self.view_is) (c.last_wrong.ensures
    ∙ accused_is (answers_of c.self.inside) c.self.inside.judged c.self.inside.trusted.items c.self.invariant.columns)
