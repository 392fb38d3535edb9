use Rattle.output_slice.proofs.SliceByOnePass.{slice_is_list}
use Rattle.output_slice.proofs.laws.slices_are_lists.Goals as goal

pub returns : goal.returns
returns c = slice_is_list
