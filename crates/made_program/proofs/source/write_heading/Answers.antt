use Rattle.std.proofs.Common.{codes}
use Rattle.made_program.proofs.Appended.{then_more}
use Rattle.made_program.proofs.source.write_heading.Goals as goal

pub returns : goal.returns
returns c =
    then_more c.args.out.now (codes "program made;\n") (codes "var s: integer;\n") c.in_ok-append.ensures.ok c.in_ok-append-2.ensures.ok
