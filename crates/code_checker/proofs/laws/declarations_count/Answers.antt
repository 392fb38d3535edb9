use Rattle.code_checker.proofs.DeclarationsAmong.{declarations_among}
use Rattle.code_checker.proofs.laws.declarations_count.Goals as goal

pub returns : goal.returns
returns c = declarations_among
