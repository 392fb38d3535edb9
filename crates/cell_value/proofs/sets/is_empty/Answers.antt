use Rattle.std.proofs.Common.{arith}
use Rattle.cell_value.proofs.{BitsAreMembers.nothing_where_zero, BitsAreMembers.zero_where_nothing, WordsMakeSets.IsWhole, WordsMakeSets.each_of_four}
use Rattle.cell_value.proofs.sets.is_empty.Goals as goal

pub returns : goal.returns
returns c =
    let whole : IsWhole c.args.a = record { four = omega arith; small = each_of_four _ (omega arith) (omega arith) (omega arith) (omega arith) } in
    (nothing_where_zero c.args.a whole, zero_where_nothing c.args.a whole)
