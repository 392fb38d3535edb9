use Rattle.std.proofs.Common.{◌++◌, codes}
use Rattle.made_program.proofs.Appended.{then_more}
use Rattle.made_program.proofs.source.write_procedure.Goals as goal

pub returns : goal.returns
returns c =
    let start = c.args.out.now in
    let first = codes "procedure t(d: integer);\n" in
    let second = first ++ codes "begin\n" in
    let third = second ++ codes "  s := s + 1;\n" in
    let fourth = third ++ codes "  if d > 0 then begin t(d - 1); t(d - 1) end\n" in
    then_more start fourth (codes "end;\n")
    (then_more start third (codes "  if d > 0 then begin t(d - 1); t(d - 1) end\n")
    (then_more start second (codes "  s := s + 1;\n") (then_more start first (codes "begin\n") c.in_ok-append.ensures.ok c.in_ok-append-2.ensures.ok)
    c.in_ok-append-3.ensures.ok)
    c.in_ok-append-4.ensures.ok)
    c.in_ok-append-5.ensures.ok
