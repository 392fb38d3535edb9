use Rattle.std.proofs.Common.{rules}
use Rattle.check_steps.proofs.FirstThreat.{none_at_first}
use Rattle.check_steps.proofs.threats.Threats.new.Goals as goal

pub invariant_of-result : goal.invariant_of-result
invariant_of-result c =
    none_at_first c.args.tokens c.in_ok-variables.variables.items c.in_ok-none_from.none_from.items c.in_ok-none_before.none_before.items (search rules)
    (search rules)
