use Rattle.grammar.proofs.Ending.{refused_inside}
use Rattle.grammar.proofs.laws.refusals_are_inside.Goals as goal

pub returns : goal.returns
returns c = refused_inside
