use Rattle.std.proofs.{Common.codes, Common.option_copied, Common.w64, lemmas.Int.to_z-of_z}
use Rattle.cell_names.proofs.NameParts.{in_three}
use Rattle.cell_names.proofs.name_parts.then_index.Goals as goal
use Rattle.cell_names.specs.Values.{within_bounds}

pub returns : goal.returns
returns c =
    let shown = rw (to_z-of_z w64 c.args.value c.ranges.value) at c.then_ordinal-indexed.ensures in
    in_three (option_copied c.args.left) (codes "[") (within_bounds c.args.program.now c.args.value c.args.bounds) (codes "]")
    c.then_sign-opened.ensures shown c.then_sign.ensures
