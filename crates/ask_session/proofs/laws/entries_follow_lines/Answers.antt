use Rattle.ask_session.proofs.LinesAreFollowed.{entries_follow}
use Rattle.ask_session.proofs.laws.entries_follow_lines.Goals as goal

pub returns : goal.returns
returns c = entries_follow
