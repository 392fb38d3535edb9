use Rattle.std.proofs.Common.{◌+◌, ◌∙◌, arith}
use Rattle.cell_value.proofs.Masks.{below_has, between_of_below}
use Rattle.cell_value.proofs.sets.range.Goals as goal

pub returns : goal.returns
returns c ordinal = c.minus.ensures.members ordinal
    ∙ rw (
      c.below.ensures,
      c.below-2.ensures,
      below_has (c.from.result + 1) (omega arith) ordinal,
      below_has c.from-2.result (omega arith) ordinal,
      c.from.ensures,
      c.from-2.ensures,
    ) (between_of_below c.args.from c.args.to ordinal)
