use Rattle.std.proofs.Common.{subst}
use Rattle.program_run.proofs.runner.Runner.go.Goals as goal
use Rattle.program_run.specs.Runners.{AtRest}

pub returns-in-None : goal.returns-in-None
returns-in-None c = record {
  over = λ first t. subst (λ b. AtRest c.args.program.now first b c.stops.self) c.in-None.is (c.stops.invariant.2 first t);
}

pub go_on-requires-clause-rests : goal.go_on-requires-clause-rests
go_on-requires-clause-rests c = let first = c.requires.rests.0 in (first, c.stops.invariant.2 first c.requires.rests.1)
