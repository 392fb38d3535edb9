use Rattle.pas_tree.proofs.Decided.{pascal_decided}
use Rattle.pas_tree.proofs.laws.one_token_decides.Goals as goal

pub returns : goal.returns
returns c = pascal_decided
