use Rattle.core_program.proofs.LawsOfRuns.{body_is, made}
use Rattle.core_program.proofs.run_laws.bodies_repeat.Goals as goal

pub returns : goal.returns
returns c = λ p input budget r e k d h W. body_is p W k d _ (made p input budget r e k d h)
