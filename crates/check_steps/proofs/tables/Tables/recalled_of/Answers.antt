use Rattle.std.proofs.Common.{◌∙◌, ◌≡◌, subst, sym}
use Rattle.check_steps.proofs.Recalls.{recalled_far, recalled_near}
use Rattle.check_steps.proofs.tables.Tables.recalled_of.Goals as goal
use Rattle.check_steps.specs.Known.{Known, find}

pub returns-clause-near : goal.returns-clause-near
returns-clause-near c = λ r is.
    subst (λ (k : Known). r.near.found ≡ find k r.near.frame c.args.name) c.self.view_is
    (recalled_near _ c.self.inside.recent c.args.name r c.self.invariant.4 (sym c.of.ensures ∙ is))

pub returns-clause-far : goal.returns-clause-far
returns-clause-far c = λ r is.
    subst (λ (k : Known). r.far.found ≡ find k r.far.frame c.args.name) c.self.view_is
    (recalled_far _ c.self.inside.recent c.args.name r c.self.invariant.4 (sym c.of.ensures ∙ is))
