use Rattle.std.proofs.Common.{◌∙◌}
use Rattle.cell_names.proofs.IndicesPassed.{sized}
use Rattle.cell_names.proofs.walks.is_indexed.Goals as goal

pub returns-else-array-eq0 : goal.returns-else-array-eq0
returns-else-array-eq0 c =
    c.goes_on_by.ensures ∙ sized c.args.program.now c.args.array c.args.place c.args.array.size c.args.name.now c.if-array-eq0.false
