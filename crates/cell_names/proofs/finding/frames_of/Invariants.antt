use Rattle.cell_names.proofs.NamesMade.{IsFramed}
use Rattle.cell_names.proofs.finding.frames_of.Given as goal

abbrev pub invariant-routines : goal.invariant-routines
invariant-routines l = IsFramed l.program l.lists.items l.routine
