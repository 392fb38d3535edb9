use Rattle.core_program.proofs.LawsOfRuns.{acts_countable, calls_countable, made, made_countable, parts_countable}
use Rattle.core_program.proofs.run_laws.touches_are_countable.Goals as goal

pub returns-clause-acts : goal.returns-clause-acts
returns-clause-acts c = acts_countable

pub returns-clause-parts : goal.returns-clause-parts
returns-clause-parts c = parts_countable

pub returns-clause-calls : goal.returns-clause-calls
returns-clause-calls c = calls_countable

pub returns-clause-runs : goal.returns-clause-runs
returns-clause-runs c = λ p input budget r e k d h. made_countable p d _ (made p input budget r e k d h)
