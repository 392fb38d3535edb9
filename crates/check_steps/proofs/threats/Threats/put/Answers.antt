use Rattle.check_steps.proofs.FirstThreat.{none_but_one}
use Rattle.check_steps.proofs.threats.Threats.put.Goals as goal

pub invariant_of-self : goal.invariant_of-self
invariant_of-self c =
    let t = c.self.inside in
    rw (c.set.ensures, c.lower.ensures)
    (none_but_one t.variables.items t.none_from.items t.none_before.items c.args.variable c.args.token c.self.invariant)
