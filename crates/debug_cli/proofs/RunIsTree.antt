-- The calls of a run are numbered as their tree is, and there is a routine for each.
use Rattle.pas_lexer.specs.Lexed.{Lexed}
use Rattle.core_program.specs.{Laws.LastIsACall, Laws.SubtreeIsInterval, ProgramRows.ProgramRows}
use Rattle.optimal_query.specs.Laws.{IsCallTree}
use Rattle.debuggee.proofs.CallsAreNumbered.{columns_of_routines, run_numbered}
use Rattle.debuggee.specs.{Execution.Supply, Execution.execution_of, Subjects.subject_of}

pub run_is_tree : SubtreeIsInterval → LastIsACall → (t : Lexed) (p : ProgramRows) (s : Supply) → IsCallTree (subject_of (execution_of t p s)).tree
run_is_tree subtree last t p s = record {
  numbered = run_numbered subtree last p s;
  of_routines = columns_of_routines (execution_of t p s).recorded.calls;
}
