use Rattle.std.proofs.Common.{◌∙◌, List, ap, sym}
use Rattle.check_steps.proofs.scopes.Scopes.label_homes.Goals as goal
use Rattle.check_steps.specs.{Around.is_among, Homes.AreHomes, Regions.RegionRows, Regions.declared_in}

pub returns : goal.returns
unfolding AreHomes
returns c = λ r e.
    ap (λ (rs : List RegionRows). declared_in rs r c.args.value) (sym c.self.view_is)
    ∙ c.self.invariant.1 c.args.value r (ap (λ l. is_among l r) (sym c.of.ensures) ∙ e)
