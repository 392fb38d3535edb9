use Rattle.std.proofs.Common.{refl}
use Rattle.cell_value.specs.Sets.{bits_where, set_of}
use Rattle.eval_ops.proofs.sets.no_members.Goals as goal

pub returns : goal.returns
unfolding set_of bits_where
returns c = refl
