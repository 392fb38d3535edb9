use Rattle.output_slice.proofs.{MarksNarrow.marks_narrow, WrongOutputsLead.narrows}
use Rattle.output_slice.proofs.laws.wrong_outputs_narrow.Goals as goal

pub returns-clause-after_answers : goal.returns-clause-after_answers
returns-clause-after_answers c = narrows c.buggy_is_left.ensures.among_those_left

pub returns-clause-by_marks : goal.returns-clause-by_marks
returns-clause-by_marks c = marks_narrow (narrows c.buggy_is_left.ensures.among_those_left)
