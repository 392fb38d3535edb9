use Rattle.std.proofs.Common.{◌&&◌, ◌-◌, arith, bit_and, not}
use Rattle.cell_value.proofs.WordsMakeSets.{IsWhole, difference_joins, each_of_four, joined_has, joined_is}
use Rattle.cell_value.proofs.sets.minus.Goals as goal

pub returns : goal.returns
returns c =
    let of_a : IsWhole c.args.a = record { four = omega arith; small = each_of_four _ (omega arith) (omega arith) (omega arith) (omega arith) } in
    let of_b : IsWhole c.args.b = record { four = omega arith; small = each_of_four _ (omega arith) (omega arith) (omega arith) (omega arith) } in
    record {
      exact = joined_is (λ x y. bit_and x (18446744073709551615 - y)) (λ a b. a && not b) c.args.a c.args.b difference_joins of_a of_b;
      members = joined_has (λ x y. bit_and x (18446744073709551615 - y)) (λ a b. a && not b) c.args.a c.args.b difference_joins of_a of_b;
    }
