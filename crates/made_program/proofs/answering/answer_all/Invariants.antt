use Rattle.std.proofs.Common.{◌+◌, ◌≡◌, length}
use Rattle.dialog_replies.specs.Kept.{IsSearchOf}
use Rattle.made_program.proofs.answering.answer_all.Given as goal
use Rattle.made_program.specs.Answering.{entries_answered}

abbrev pub invariant-loop-questions : goal.invariant-loop-questions
invariant-loop-questions g l =
    let s = g.D.Debugged.subject l.run in
    record {
      so_far : l.debug.book.entries ≡ entries_answered s l.questions;
      counted : length l.debug.book.entries ≡ l.questions + 1;
      search : IsSearchOf s l.debug;
    }
