use Rattle.std.proofs.Common.{◌&&◌, arith, bit_and}
use Rattle.cell_value.proofs.WordsMakeSets.{IsWhole, each_of_four, intersection_joins, joined_has, joined_is}
use Rattle.cell_value.proofs.sets.meet.Goals as goal

pub returns : goal.returns
returns c =
    let of_a : IsWhole c.args.a = record { four = omega arith; small = each_of_four _ (omega arith) (omega arith) (omega arith) (omega arith) } in
    let of_b : IsWhole c.args.b = record { four = omega arith; small = each_of_four _ (omega arith) (omega arith) (omega arith) (omega arith) } in
    record {
      exact = joined_is bit_and (λ a b. a && b) c.args.a c.args.b intersection_joins of_a of_b;
      members = joined_has bit_and (λ a b. a && b) c.args.a c.args.b intersection_joins of_a of_b;
    }
