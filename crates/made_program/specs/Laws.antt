-- That the search finds the call that it was to find.
use Rattle.std.specs.Prelude.{◌+◌, ◌<◌, ◌≡◌, slice_index}
use Rattle.optimal_query.specs.{Laws.IsCallTree, declared.state.SearchState.TheVariants.Found}
use Rattle.dialog_replies.specs.Subject.{Subject, calls_recorded, state_after}
use Rattle.made_program.specs.Answering.{call_at_fault, entries_at_end}

-- the calls of a run, fewer than 100,000, all of them in the subtree of call 0
pub record IsSmallTree (s : Subject) : Type 0 where
  pub tree : IsCallTree s.tree
  pub rooted : slice_index s.tree.last 0 + 1 ≡ calls_recorded s
  pub few : calls_recorded s < 100000

-- the call at fault is found
abbrev pub EndsAtTheFault : Subject → Type 0
EndsAtTheFault s = state_after s (entries_at_end s) ≡ Found (call_at_fault s)

-- of such calls it is
abbrev pub FaultIsFound : Type 0
FaultIsFound = (s : Subject) → IsSmallTree s → EndsAtTheFault s
