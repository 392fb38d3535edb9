use Rattle.std.proofs.Common.{refl}
use Rattle.output_slice.proofs.OutputsWanted.{asked_cell, asked_gives, asked_makes, asked_result, asked_takes, asked_way}
use Rattle.output_slice.proofs.found.want.Goals as goal

pub returns-in-Cell : goal.returns-in-Cell
returns-in-Cell c wants h = rw c.in-Cell.is (asked_cell wants c.in-Cell.addr c.args.gathered.now c.args.needs.now
    (record { cells = c.insert.new.self; input = c.args.needs.now.input; heap = c.args.needs.now.heap }) c.insert.ensures refl refl h)

pub returns-in-Gives : goal.returns-in-Gives
returns-in-Gives c wants h = rw c.in-Gives.is (asked_gives wants c.args.gathered.now c.args.needs.now h)

pub returns-in-Takes : goal.returns-in-Takes
returns-in-Takes c wants h = rw c.in-Takes.is (asked_takes wants c.args.gathered.now c.args.needs.now h)

pub returns-in-Makes : goal.returns-in-Makes
returns-in-Makes c wants h = rw c.in-Makes.is (asked_makes wants c.args.gathered.now c.args.needs.now h)

pub returns-in-Result : goal.returns-in-Result
returns-in-Result c wants h = rw c.in-Result.is (asked_result wants c.args.gathered.now c.args.needs.now h)

pub returns-in-Way : goal.returns-in-Way
returns-in-Way c wants h = rw c.in-Way.is (asked_way wants c.args.gathered.now c.args.needs.now h)
