use Rattle.std.proofs.Common.{arith}
use Rattle.cell_value.proofs.Masks.{all_bits, first_bits}
use Rattle.cell_value.proofs.sets.first_bits.Goals as goal

pub returns-then-count-lt64 : goal.returns-then-count-lt64
returns-then-count-lt64 c = first_bits c.args.count (omega arith)

pub returns-else-count-lt64 : goal.returns-else-count-lt64
returns-else-count-lt64 c = all_bits c.args.count (omega arith)
