use Rattle.std.proofs.{Common.arith, Common.w64, lemmas.Int.to_z-of_z}
use Rattle.cell_value.proofs.BitsAreMembers.{number_of_byte, number_of_none}
use Rattle.cell_value.proofs.sets.holds.Goals as goal

pub returns-in-Ok : goal.returns-in-Ok
returns-in-Ok c =
    let here = rw (to_z-of_z w64 c.args.ordinal c.ranges.ordinal) at c.in-Ok.ensures in
    number_of_byte c.args.a c.args.ordinal c.in-Ok.place (omega arith) here.0 here.1

pub returns-in-Err : goal.returns-in-Err
returns-in-Err c = number_of_none c.args.a c.args.ordinal (omega arith) (rw (to_z-of_z w64 c.args.ordinal c.ranges.ordinal) at c.in-Err.ensures)
