use Rattle.std.proofs.Common.{◌≡◌, map}
use Rattle.answer_book.specs.{Entries.standing_answers, Marks.mark_of, Numbers.numbers_below}
use Rattle.dialog_replies.proofs.marks.marks_now.Given as goal

abbrev pub invariant-loop-call : goal.invariant-loop-call
invariant-loop-call g l =
    l.marks.items ≡ map (mark_of l.debug.book.routine (standing_answers l.debug.book.entries)) (numbers_below l.call)
