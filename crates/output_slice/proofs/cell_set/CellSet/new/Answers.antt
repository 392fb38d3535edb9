use Rattle.output_slice.proofs.StampsTell.{blank_has_none, blank_stamped}
use Rattle.output_slice.proofs.cell_set.CellSet.new.Goals as goal

pub invariant_of-result : goal.invariant_of-result
invariant_of-result c = record { stamped = blank_stamped c.in_ok-stamps.stamps.items c.in_ok-stamps.ensures.each c.in_ok-stamps.ensures.none }

pub returns : goal.returns
returns c = blank_has_none c.in_ok-stamps.stamps.items c.in_ok-stamps.ensures.none
