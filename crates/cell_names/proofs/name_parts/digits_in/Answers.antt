use Rattle.std.proofs.Common.{arith, sym}
use Rattle.cell_names.proofs.Decimals.{eight_digits, five_digits, four_digits, nine_digits, one_digit, seven_digits, six_digits, ten_digits, three_digits}
use Rattle.cell_names.proofs.Decimals.{two_digits}
use Rattle.cell_names.proofs.name_parts.digits_in.Goals as goal

pub returns-then-number-lt10 : goal.returns-then-number-lt10
returns-then-number-lt10 c = sym (one_digit c.args.number c.if-number-lt10.true)

pub returns-then-number-lt100 : goal.returns-then-number-lt100
returns-then-number-lt100 c =
    let above = c.if-number-lt10.false in let below = c.if-number-lt100.true in sym (two_digits c.args.number (omega (arith, above)) (omega (arith, below)))

pub returns-then-number-lt1000 : goal.returns-then-number-lt1000
returns-then-number-lt1000 c =
    let above = c.if-number-lt100.false in let below = c.if-number-lt1000.true in sym (three_digits c.args.number (omega (arith, above)) (omega (arith, below)))

pub returns-then-number-lt10000 : goal.returns-then-number-lt10000
returns-then-number-lt10000 c =
    let above = c.if-number-lt1000.false in let below = c.if-number-lt10000.true in
    sym (four_digits c.args.number (omega (arith, above)) (omega (arith, below)))

pub returns-then-number-lt100000 : goal.returns-then-number-lt100000
returns-then-number-lt100000 c =
    let above = c.if-number-lt10000.false in let below = c.if-number-lt100000.true in
    sym (five_digits c.args.number (omega (arith, above)) (omega (arith, below)))

pub returns-then-number-lt1000000 : goal.returns-then-number-lt1000000
returns-then-number-lt1000000 c =
    let above = c.if-number-lt100000.false in let below = c.if-number-lt1000000.true in
    sym (six_digits c.args.number (omega (arith, above)) (omega (arith, below)))

pub returns-then-number-lt10000000 : goal.returns-then-number-lt10000000
returns-then-number-lt10000000 c =
    let above = c.if-number-lt1000000.false in let below = c.if-number-lt10000000.true in
    sym (seven_digits c.args.number (omega (arith, above)) (omega (arith, below)))

pub returns-then-number-lt100000000 : goal.returns-then-number-lt100000000
returns-then-number-lt100000000 c =
    let above = c.if-number-lt10000000.false in let below = c.if-number-lt100000000.true in
    sym (eight_digits c.args.number (omega (arith, above)) (omega (arith, below)))

pub returns-then-number-lt1000000000 : goal.returns-then-number-lt1000000000
returns-then-number-lt1000000000 c =
    let above = c.if-number-lt100000000.false in let below = c.if-number-lt1000000000.true in
    sym (nine_digits c.args.number (omega (arith, above)) (omega (arith, below)))

pub returns-else-number-lt1000000000 : goal.returns-else-number-lt1000000000
returns-else-number-lt1000000000 c =
    let above = c.if-number-lt1000000000.false in let range = c.ranges.number in
    sym (ten_digits c.args.number (omega (arith, above)) (omega (arith, range)))
