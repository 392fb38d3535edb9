use Rattle.grammar.proofs.Texts.{refused_wrong, surplus_wrong}
use Rattle.grammar.proofs.laws.refusals_are_right.Goals as goal

pub returns-clause-refused : goal.returns-clause-refused
returns-clause-refused c = refused_wrong

pub returns-clause-surplus : goal.returns-clause-surplus
returns-clause-surplus c = surplus_wrong
