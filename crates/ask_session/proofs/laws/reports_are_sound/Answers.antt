use Rattle.answer_book.specs.Entries.{standing_answers}
use Rattle.ask_session.proofs.ReportsAreSound.{names_the_accused}
use Rattle.ask_session.proofs.laws.reports_are_sound.Goals as goal

pub returns-clause-asks : goal.returns-clause-asks
returns-clause-asks c = λ s tree entries call weight suspects left e.
    c.question_is_least.ensures s.tree (standing_answers entries) call weight suspects left tree e

pub returns-clause-narrows : goal.returns-clause-narrows
returns-clause-narrows c = λ s tree entries accused went_wrong e agrees.
    c.buggy_is_left.ensures.among_those_left s.tree (standing_answers entries) accused went_wrong tree e agrees

pub returns-clause-names : goal.returns-clause-names
returns-clause-names c = λ s tree. names_the_accused s

pub returns-clause-finds : goal.returns-clause-finds
returns-clause-finds c = λ s tree entries call e. (
  c.found_is_at_fault.ensures s.tree (standing_answers entries) call tree e,
  λ went_wrong agrees. c.buggy_is_left.ensures.found s.tree (standing_answers entries) call went_wrong tree e agrees,
)
