use Rattle.std.proofs.Common.{◌∙◌, ap, sym}
use Rattle.cell_value.proofs.BitsAreMembers.{included, nothing_outside, same_truth}
use Rattle.cell_value.proofs.sets.within.Goals as goal
use Rattle.cell_value.specs.Sets.{has, is_included}

pub returns-clause-exact : goal.returns-clause-exact
returns-clause-exact c = same_truth _ (is_included c.args.a c.args.b)
    (λ e. included c.args.a c.args.b (λ o. ap (λ s. has s o) (sym c.minus.ensures.exact) ∙ c.is_empty.ensures.0 e o))
    (λ e. c.is_empty.ensures.1 (λ o. ap (λ s. has s o) c.minus.ensures.exact ∙ nothing_outside c.args.a c.args.b e o))
