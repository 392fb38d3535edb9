use Rattle.pas_tree.proofs.FirstRefused.{where_read}
use Rattle.pas_tree.proofs.laws.refusals_are_exact.Goals as goal

pub returns : goal.returns
returns c = where_read
