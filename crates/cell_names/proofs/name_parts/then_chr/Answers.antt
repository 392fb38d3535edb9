use Rattle.std.proofs.Common.{codes, decimal, option_copied}
use Rattle.cell_names.proofs.NameParts.{in_three}
use Rattle.cell_names.proofs.name_parts.then_chr.Goals as goal

pub returns : goal.returns
returns c =
    in_three (option_copied c.args.left) (codes "chr(") (decimal c.args.ordinal) (codes ")") c.then_part-opened.ensures
    c.then_number-shown.ensures c.then_sign.ensures
