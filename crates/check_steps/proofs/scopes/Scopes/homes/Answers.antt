use Rattle.std.proofs.Common.{◌∙◌, List, ap, sym}
use Rattle.check_steps.proofs.scopes.Scopes.homes.Goals as goal
use Rattle.check_steps.specs.{Around.is_among, Homes.AreHomes, Regions.RegionRows, Regions.defined_in}

pub returns : goal.returns
unfolding AreHomes
returns c = λ r e.
    ap (λ (rs : List RegionRows). defined_in rs r c.args.name) (sym c.self.view_is)
    ∙ c.self.invariant.0 c.args.name r (ap (λ l. is_among l r) (sym c.of.ensures) ∙ e)
