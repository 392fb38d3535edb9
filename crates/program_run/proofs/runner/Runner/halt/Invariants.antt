use Rattle.std.proofs.Common.{◌≡◌, length}
use Rattle.core_program.specs.{ProgramRows.ProgramRows, Run.Halted}
use Rattle.program_run.proofs.runner.Runner.halt.Given as goal
use Rattle.program_run.specs.{Runners.At, Runners.IsWell, Tower.Ends, Tower.First}

abbrev pub invariant-calls : goal.invariant-calls
invariant-calls l =
    ((p : ProgramRows) (first : First) → At p first (Ends (Halted l.way)) l.fn.self → At p first (Ends (Halted l.way)) l.self)
    × IsWell l.self × (l.self.machine.steps ≡ l.fn.self.machine.steps) × (l.self.machine.calls ≡ l.fn.self.machine.calls)

abbrev pub decreases-calls : goal.decreases-calls
decreases-calls l = length l.self.opens.items
