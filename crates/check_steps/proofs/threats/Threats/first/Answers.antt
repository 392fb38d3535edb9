use Rattle.std.{proofs.Common.◌-◌, proofs.Common.◌∙◌, proofs.Common.ap, proofs.Common.sym, specs.Prelude.unwrap_or}
use Rattle.check_steps.proofs.FirstThreat.{none_kept}
use Rattle.check_steps.proofs.threats.Threats.first.Goals as goal
use Rattle.check_steps.specs.Threats.{first_threat}

pub invariant_of-self : goal.invariant_of-self
invariant_of-self c =
    let t = c.self.inside in
    let found = c.search-first.ensures ∙ ap (λ l. first_threat (c.args.to - c.args.from) l c.args.variable c.args.from) (sym c.self.view_is) in
    let before = c.unwrap_or.ensures ∙ ap (λ o. unwrap_or o c.args.to) found in
    rw (c.put_bound.ensures, c.put_bound-2.ensures, before)
    (none_kept t.variables.items t.none_from.items t.none_before.items c.args.variable c.args.from c.args.to c.self.invariant)
