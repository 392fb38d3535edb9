use Rattle.std.proofs.Common.{rules}
use Rattle.answer_book.proofs.FlagLemmas.{new_are_flagged}
use Rattle.answer_book.proofs.judged_calls.JudgedCalls.new.Goals as goal

pub invariant_of-result : goal.invariant_of-result
invariant_of-result c =
    new_are_flagged c.args.calls c.in_ok-last.last.items c.in_ok-wrong.wrong.items (search rules) (search rules) c.requires.few
