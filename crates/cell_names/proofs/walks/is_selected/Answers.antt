use Rattle.std.proofs.Common.{◌∙◌, sym}
use Rattle.cell_names.proofs.FieldsPassed.{not_selected}
use Rattle.cell_names.proofs.walks.is_selected.Goals as goal

pub returns-else-may_select : goal.returns-else-may_select
returns-else-may_select c =
    let not_there = c.if-may_select.false in
    rw c.in-Some.is (not_there ∙ sym (not_selected c.args.program.now c.in-Some.part c.args.name.now (sym c.may_select.ensures ∙ not_there)))
