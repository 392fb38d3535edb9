use Rattle.optimal_query.proofs.AnswersLeave.{answers_leave}
use Rattle.optimal_query.proofs.laws.answers_leave_what_is_counted.Goals as goal

pub returns : goal.returns
returns c = answers_leave
