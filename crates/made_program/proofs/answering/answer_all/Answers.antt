use Rattle.std.proofs.Common.{◌+◌, ◌-◌, ◌∙◌, ◌≡◌, List, ap, arith, false, length, sym}
use Rattle.answer_book.specs.declared.entries.Entry.{Entry}
use Rattle.dialog_replies.specs.Subject.{state_after}
use Rattle.made_program.proofs.Answered.{all_answered, as_they_were, at_first, counted_by, one_longer, one_more, stopped}
use Rattle.made_program.proofs.answering.answer_all.Goals as goal
use Rattle.made_program.specs.Asked.{asks}

pub loop-questions-init : goal.loop-questions-init
loop-questions-init g c =
    let s = g.D.Debugged.subject c.args.run.now in
    record {
      so_far = c.requires.first ∙ at_first s;
      counted = ap (λ (es : List Entry). length es) c.requires.first;
      search = c.requires.search;
    }

pub answer_next-requires-clause-room : goal.answer_next-requires-clause-room
answer_next-requires-clause-room g c = omega (arith, c.loop-questions.invariant.counted)

pub answer_next-requires-clause-search : goal.answer_next-requires-clause-search
answer_next-requires-clause-search g c = c.loop-questions.invariant.search

pub loop-questions-preserved : goal.loop-questions-preserved
loop-questions-preserved g c =
    let s = g.D.Debugged.subject c.args.run.now in
    let before = c.loop-questions.debug.book.entries in
    let n = c.loop-questions.questions in
    record {
      so_far = one_more s before n c.loop-questions.invariant.so_far c.answer_next.ensures.answered;
      counted = one_longer s before (n + 1) (sym c.answer_next.ensures.asked ∙ c.if-not-answer_next.false) c.answer_next.ensures.answered
          c.loop-questions.invariant.counted;
      search = c.answer_next.ensures.search;
    }

pub returns-then-not-answer_next-clause-answered : goal.returns-then-not-answer_next-clause-answered
returns-then-not-answer_next-clause-answered g c =
    let s = g.D.Debugged.subject c.args.run.now in
    let before = c.loop-questions.debug.book.entries in
    let none : asks (state_after s before) ≡ false = sym c.answer_next.ensures.asked ∙ c.if-not-answer_next.true in
    c.answer_next.ensures.answered ∙ as_they_were s before (state_after s before) none
    ∙ stopped s before c.loop-questions.questions (omega arith) c.loop-questions.invariant.so_far none

pub returns-then-not-answer_next-clause-counted : goal.returns-then-not-answer_next-clause-counted
returns-then-not-answer_next-clause-counted g c =
    let s = g.D.Debugged.subject c.args.run.now in
    let before = c.loop-questions.debug.book.entries in
    let none : asks (state_after s before) ≡ false = sym c.answer_next.ensures.asked ∙ c.if-not-answer_next.true in
    counted_by s before c.loop-questions.questions
    (stopped s before c.loop-questions.questions (omega arith) c.loop-questions.invariant.so_far none) c.loop-questions.invariant.counted

pub returns-clause-answered : goal.returns-clause-answered
returns-clause-answered g c =
    let s = g.D.Debugged.subject c.args.run.now in
    let n = c.loop-questions.questions in
    let all : n ≡ 99999 = omega arith in
    c.loop-questions.invariant.so_far ∙ sym (all_answered s n all)

pub returns-clause-counted : goal.returns-clause-counted
returns-clause-counted g c =
    let s = g.D.Debugged.subject c.args.run.now in
    let n = c.loop-questions.questions in
    let all : n ≡ 99999 = omega arith in
    sym all ∙ counted_by s c.loop-questions.debug.book.entries n (c.loop-questions.invariant.so_far ∙ sym (all_answered s n all))
    c.loop-questions.invariant.counted
