use Rattle.debuggee.proofs.{CardsLeaveOut.cards_leave_out, CellsHaveNames.cells_are_named, TracesHaveLines.traces_have_lines}
use Rattle.debuggee.proofs.laws.only_links_are_left_out.Goals as goal

pub returns-clause-cards : goal.returns-clause-cards
returns-clause-cards c = cards_leave_out

pub returns-clause-traces : goal.returns-clause-traces
returns-clause-traces c = traces_have_lines

pub returns-clause-names : goal.returns-clause-names
returns-clause-names c = cells_are_named
