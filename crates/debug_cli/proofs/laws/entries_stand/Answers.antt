use Rattle.debuggee.specs.{Execution.execution_of, Subjects.subject_of}
use Rattle.debug_cli.proofs.laws.entries_stand.Goals as goal

pub returns : goal.returns
returns c = λ t p s. c.entries_follow_lines.ensures (subject_of (execution_of t p s))
