use Rattle.grammar.proofs.Hopeless.{surplus_hopeless, unfit_hopeless}
use Rattle.grammar.proofs.refusals.refused_is_hopeless.Goals as goal

pub returns-clause-unfit : goal.returns-clause-unfit
returns-clause-unfit c = unfit_hopeless

pub returns-clause-surplus : goal.returns-clause-surplus
returns-clause-surplus c = surplus_hopeless
