use Rattle.reference_oracle.proofs.{ReferencesAsked.can_be_asked, VerdictsTested.has_answer}
use Rattle.reference_oracle.proofs.laws.references_answer.Goals as goal

pub returns-clause-asked : goal.returns-clause-asked
returns-clause-asked c = can_be_asked

pub returns-clause-answer : goal.returns-clause-answer
returns-clause-answer c = has_answer
