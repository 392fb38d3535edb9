use Rattle.code_checker.proofs.TooBigLast.{too_big_last}
use Rattle.code_checker.proofs.laws.too_big_comes_last.Goals as goal

pub returns : goal.returns
returns c = too_big_last
