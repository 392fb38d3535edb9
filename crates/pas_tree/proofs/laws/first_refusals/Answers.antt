use Rattle.pas_tree.proofs.FirstRefused.{where_first}
use Rattle.pas_tree.proofs.laws.first_refusals.Goals as goal

pub returns : goal.returns
returns c = where_first
