use Rattle.std.proofs.Common.{◌-◌, ◌≡◌}
use Rattle.check_steps.proofs.threats.first_from.Given as goal
use Rattle.check_steps.specs.Threats.{first_threat}

abbrev pub invariant-tokens : goal.invariant-tokens
invariant-tokens l = first_threat (l.to - l.token) l.threats l.variable l.token ≡ first_threat (l.to - l.from) l.threats l.variable l.from
