use Rattle.program_run.proofs.runner.Runner.go.Given as goal
use Rattle.program_run.specs.Runners.{AtRest, Chain, IsWell, opens_in, work_left}
use Rattle.program_run.specs.Tower.{First}

abbrev pub invariant-stops : goal.invariant-stops
invariant-stops l =
    IsWell l.self × Chain l.self.body (opens_in l.self)
    × ((first : First) → AtRest l.program first l.fn.self.body l.fn.self → AtRest l.program first l.self.body l.self)

abbrev pub decreases-stops : goal.decreases-stops
decreases-stops l = work_left l.self
