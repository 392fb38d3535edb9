use Rattle.std.proofs.Common.{◌∙◌, ap}
use Rattle.check_steps.proofs.homes.Homes.of.Goals as goal
use Rattle.check_steps.specs.Homes.{homes_of, regions_of}

pub returns-in-Some : goal.returns-in-Some
returns-in-Some g c = c.deref.ensures.value ∙ ap regions_of c.in-Some.ensures.value ∙ ap (λ l. homes_of l c.args.number) c.self.view_is

pub returns-in-None : goal.returns-in-None
returns-in-None g c = ap regions_of c.in-None.ensures.value ∙ ap (λ l. homes_of l c.args.number) c.self.view_is
