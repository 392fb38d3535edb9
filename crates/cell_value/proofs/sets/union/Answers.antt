use Rattle.std.proofs.Common.{◌||◌, arith, bit_or}
use Rattle.cell_value.proofs.WordsMakeSets.{IsWhole, each_of_four, joined_has, joined_is, union_joins}
use Rattle.cell_value.proofs.sets.union.Goals as goal

pub returns : goal.returns
returns c =
    let of_a : IsWhole c.args.a = record { four = omega arith; small = each_of_four _ (omega arith) (omega arith) (omega arith) (omega arith) } in
    let of_b : IsWhole c.args.b = record { four = omega arith; small = each_of_four _ (omega arith) (omega arith) (omega arith) (omega arith) } in
    record {
      exact = joined_is bit_or (λ a b. a || b) c.args.a c.args.b union_joins of_a of_b;
      members = joined_has bit_or (λ a b. a || b) c.args.a c.args.b union_joins of_a of_b;
    }
