use Rattle.run_laws.proofs.{CopiesBegin.copies_begin, RunsFill.parameters_filled}
use Rattle.run_laws.proofs.laws.actuals_fill_parameters.Goals as goal

pub returns-clause-filled : goal.returns-clause-filled
returns-clause-filled c = parameters_filled

pub returns-clause-copies : goal.returns-clause-copies
returns-clause-copies c = copies_begin
