use Rattle.std.proofs.Common.{◌∙◌, sym}
use Rattle.cell_value.proofs.ListsRank.{ranked_past}
use Rattle.cell_value.proofs.comparisons.rank_lists.Goals as goal

pub returns-in_default : goal.returns-in_default
returns-in_default c = sym (c.loop-place.invariant ∙ ranked_past _ c.args.right.now c.loop-place.place c.in_default.ensures.lookup.3)
