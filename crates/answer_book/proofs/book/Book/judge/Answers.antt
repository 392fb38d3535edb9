use Rattle.std.proofs.Common.{◌<◌, ◌∙◌, arith, length, sym}
use Rattle.std.proofs.lemmas.Result.{err_from_is_err_and}
use Rattle.answer_book.proofs.{AnswerLemmas.call_answer, AnswerLemmas.no_call_answer, MarkLemmas.judged_length}
use Rattle.answer_book.proofs.book.Book.judge.Goals as goal
use Rattle.answer_book.specs.Kept.{answers_of}

pub returns-then-call-len-clause-answer : goal.returns-then-call-len-clause-answer
returns-then-call-len-clause-answer c =
    let book = answers_of c.self.inside in
    let long = judged_length book c.self.inside.judged c.self.inside.trusted.items c.self.invariant.columns in
    rw (← c.self.view_is) (sym (no_call_answer book c.args.call (omega arith)))

pub returns-in_err-number-clause-answer : goal.returns-in_err-number-clause-answer
returns-in_err-number-clause-answer c =
    let book = answers_of c.self.inside in
    let long = judged_length book c.self.inside.judged c.self.inside.trusted.items c.self.invariant.columns in
    let p = err_from_is_err_and c.from_residual.result c.from_residual.ensures.1 in
    rw (p.1, p.2, ← c.self.view_is) (c.in_err-number.ensures.answer ∙ sym (call_answer book c.args.call (omega arith)))

pub put-requires-clause-room : goal.put-requires-clause-room
put-requires-clause-room c = rw (← c.self.view_is) c.in_ok-number.ensures.room

pub put-requires-clause-named : goal.put-requires-clause-named
put-requires-clause-named c =
    let book = answers_of c.self.inside in
    let long = judged_length book c.self.inside.judged c.self.inside.trusted.items c.self.invariant.columns in
    let inside : c.args.call < length book.routine = omega arith in
    rw (← c.self.view_is) inside

pub returns-clause-answer : goal.returns-clause-answer
returns-clause-answer c =
    let book = answers_of c.self.inside in
    let long = judged_length book c.self.inside.judged c.self.inside.trusted.items c.self.invariant.columns in
    rw (← c.self.view_is) (c.in_ok-number.ensures.answer ∙ sym (call_answer book c.args.call (omega arith)))
