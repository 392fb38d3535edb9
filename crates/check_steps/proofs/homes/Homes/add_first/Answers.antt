use Rattle.std.proofs.Common.{◌∙◌, ◌≡◌, ap, false}
use Rattle.check_steps.proofs.HomeLists.{among-last, homes-set}
use Rattle.check_steps.proofs.homes.Homes.add_first.Goals as goal
use Rattle.check_steps.specs.{Around.is_among, Homes.homes_of, Homes.regions_of}

pub returns-clause-kept : goal.returns-clause-kept
returns-clause-kept g c = λ n r among.
    homes-set c.self.inside.regions.entries c.insert.new.self.entries c.args.number c.push.new.self c.in_ok-insert.ensures.updates.0
    (λ s e.
    let none : is_among (homes_of c.self.inside.regions.entries c.args.number) s ≡ false =
    ap (λ l. is_among (homes_of l c.args.number) s) c.self.view_is ∙ ap (λ o. is_among (regions_of o) s) c.requires in cc)
    n r (ap (λ l. is_among (homes_of l n) r) c.self.view_is ∙ among)

pub returns-clause-added : goal.returns-clause-added
returns-clause-added g c = ap (λ o. is_among (regions_of o) c.args.region) c.in_ok-insert.ensures.updates.1
    ∙ ap (λ l. is_among l c.args.region) c.in_ok-push.ensures.items ∙ among-last c.new-regions.result.items c.args.region
