use Rattle.std.proofs.Common.{◌∙◌, sym}
use Rattle.run_laws.proofs.LaidTestsMean.{tests_mean}
use Rattle.run_laws.proofs.laid.is_laid_out.Goals as goal

pub returns : goal.returns
returns c = λ W h. tests_mean c.args.program.now c.in-Ok.rows (c.in-Ok.ensures.1 ∙ c.rows.ensures) (sym c.are_laid.ensures ∙ h) W
