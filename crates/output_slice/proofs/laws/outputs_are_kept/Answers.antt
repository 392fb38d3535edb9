use Rattle.output_slice.proofs.BodiesKept as laws
use Rattle.output_slice.proofs.laws.outputs_are_kept.Goals as goal

pub returns-clause-kept : goal.returns-clause-kept
returns-clause-kept c = laws.kept

pub returns-clause-met : goal.returns-clause-met
returns-clause-met c = laws.met_alike
