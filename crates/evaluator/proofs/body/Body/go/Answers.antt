use Rattle.evaluator.proofs.Moves.{comes_same}
use Rattle.evaluator.proofs.body.Body.go.Goals as goal

pub returns-clause-turns : goal.returns-clause-turns
returns-clause-turns c p m u e = comes_same e
