use Rattle.core_program.proofs.LawsOfRuns.{acts_sound, begins_sound, calls_sound, made, made_sound, parts_sound, runs_items}
use Rattle.core_program.proofs.run_laws.states_are_sound.Goals as goal

pub returns-clause-first : goal.returns-clause-first
returns-clause-first c = begins_sound

pub returns-clause-acts : goal.returns-clause-acts
returns-clause-acts c = acts_sound

pub returns-clause-parts : goal.returns-clause-parts
returns-clause-parts c = parts_sound

pub returns-clause-calls : goal.returns-clause-calls
returns-clause-calls c = calls_sound

pub returns-clause-runs : goal.returns-clause-runs
returns-clause-runs c = λ p input budget r e k d h. made_sound p d _ (made p input budget r e k d h)

pub returns-clause-items : goal.returns-clause-items
returns-clause-items c = runs_items
