use Rattle.optimal_query.proofs.StatesSay.{question_is_asked, question_is_least}
use Rattle.optimal_query.proofs.laws.question_is_least.Goals as goal

pub returns : goal.returns
returns c = λ calls answers call weight suspects left are h. (
  question_is_least calls answers call weight suspects left are h,
  question_is_asked calls answers call weight suspects left are h,
)
