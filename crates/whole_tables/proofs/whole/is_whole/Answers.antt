use Rattle.std.proofs.Common.{◌∙◌, sym}
use Rattle.whole_tables.proofs.TestsMean.{tests-whole}
use Rattle.whole_tables.proofs.whole.is_whole.Goals as goal

pub returns : goal.returns
returns c = λ h. tests-whole c.args.program.now c.deref.result.now c.in-Ok.rows (c.in-Ok.ensures.1 ∙ c.rows.ensures)
    (sym c.do_all_fit.ensures ∙ c.if-not-do_all_fit.false) (sym c.are_all_scoped.ensures ∙ h)
    (c.in_ok-are_named_once.ensures.once c.if-not-branch.false)
