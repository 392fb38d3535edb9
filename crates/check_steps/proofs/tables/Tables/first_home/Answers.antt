use Rattle.std.proofs.Common.{◌≡◌, ℕ, IfSome, None, Some, false, length, subst}
use Rattle.check_steps.proofs.FirstHome.{home-nowhere, home-there}
use Rattle.check_steps.proofs.tables.Tables.first_home.Goals as goal
use Rattle.check_steps.specs.{Around.first_around, Around.is_among, Known.Known, Regions.defined_in}

pub returns-clause-nowhere : goal.returns-clause-nowhere
returns-clause-nowhere c =
    let homes = c.homes.result.now in
    home-nowhere c.args.self.now homes c.args.frame c.args.name c.first_of.result
    (subst (λ (k : Known). (r : ℕ) → is_among homes r ≡ false → defined_in k.regions r c.args.name ≡ None) c.self.view_is c.homes.ensures)
    (subst (λ (k : Known). IfSome c.first_of.result (λ first. first ≡ first_around (length k.frames) k.frames (is_among homes) (Some c.args.frame)))
    c.self.view_is c.first_of.ensures)

pub returns-clause-there : goal.returns-clause-there
returns-clause-there c =
    let homes = c.homes.result.now in
    home-there c.args.self.now homes c.args.frame c.args.name c.first_of.result
    (subst (λ (k : Known). (r : ℕ) → is_among homes r ≡ false → defined_in k.regions r c.args.name ≡ None) c.self.view_is c.homes.ensures)
    (subst (λ (k : Known). IfSome c.first_of.result (λ first. first ≡ first_around (length k.frames) k.frames (is_among homes) (Some c.args.frame)))
    c.self.view_is c.first_of.ensures)
