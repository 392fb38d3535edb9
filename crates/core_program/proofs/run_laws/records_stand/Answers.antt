use Rattle.core_program.proofs.{LawsOfRuns.made, RecordsStand.stands}
use Rattle.core_program.proofs.run_laws.records_stand.Goals as goal

pub returns : goal.returns
returns c = λ p input budget r e k d h W. λ σ s a. stands p W d _ (made p input budget r e k d h) σ s a
