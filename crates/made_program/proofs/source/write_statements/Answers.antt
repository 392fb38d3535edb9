use Rattle.std.proofs.Common.{◌++◌, codes, decimal}
use Rattle.made_program.proofs.Appended.{then_more}
use Rattle.made_program.proofs.source.write_statements.Goals as goal

pub returns : goal.returns
returns c =
    let start = c.args.out.now in
    let first = codes "begin\n" in
    let second = first ++ codes "  s := 0;\n" in
    let third = second ++ codes "  t(" in
    let number = third ++ decimal c.args.n in
    let fifth = number ++ codes ")\n" in
    then_more start fifth (codes "end.\n")
    (then_more start number (codes ")\n")
    (then_more start third (decimal c.args.n)
    (then_more start second (codes "  t(") (then_more start first (codes "  s := 0;\n") c.in_ok-append.ensures.ok c.in_ok-append-2.ensures.ok)
    c.in_ok-append-3.ensures.ok)
    c.in_ok-write_number.ensures)
    c.in_ok-append-4.ensures.ok)
    c.in_ok-append-5.ensures.ok
