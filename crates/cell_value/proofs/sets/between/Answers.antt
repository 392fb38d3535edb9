use Rattle.std.proofs.{Common.◌∙◌, Common.refl, Common.w64, lemmas.Int.to_z-of_z}
use Rattle.cell_value.proofs.Masks.{below_has, bounds_of_below, included_is_between}
use Rattle.cell_value.proofs.sets.between.Goals as goal

pub returns : goal.returns
returns c =
    let first = rw (to_z-of_z w64 c.args.least c.ranges.least) at c.ordinals_below.ensures.count in
    let end = rw (to_z-of_z w64 c.args.greatest c.ranges.greatest) at c.ordinals_up_to.ensures.count in
    c.within.ensures.exact
    ∙ included_is_between c.args.a c.minus.result c.args.least c.args.greatest
    (bounds_of_below c.minus.result c.ordinals_below.result c.ordinals_up_to.result c.args.least c.args.greatest
    (λ o. c.minus.ensures.members o ∙ rw (
      c.below.ensures,
      c.below-2.ensures,
      below_has c.ordinals_up_to.result c.ordinals_up_to.ensures.few o,
      below_has c.ordinals_below.result c.ordinals_below.ensures.few o,
    ) refl) first end)
