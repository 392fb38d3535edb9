use Rattle.run_laws.proofs.RunsKeep.{pointers_kept}
use Rattle.run_laws.proofs.laws.pointers_lead_to_what_was_made.Goals as goal

pub returns : goal.returns
returns c = pointers_kept
