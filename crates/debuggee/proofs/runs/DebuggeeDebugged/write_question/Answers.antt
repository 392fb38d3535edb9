use Rattle.std.proofs.Common.{subst, sym}
use Rattle.question_text.specs.{Cards.Recorded, Prepared.AreParts}
use Rattle.debuggee.proofs.runs.DebuggeeDebugged.write_question.Goals as goal

pub write_question-requires-clause-told : goal.write_question-requires-clause-told
write_question-requires-clause-told g c = c.recorded.ensures.told c.args.call

-- what was prepared is of the run, as `recorded` tells it
pub write_question-requires-clause-parts : goal.write_question-requires-clause-parts
write_question-requires-clause-parts g c =
    subst (λ (r : Recorded). AreParts r c.args.call c.args.card.now) (sym c.recorded.ensures.recorded) c.requires.prepared
