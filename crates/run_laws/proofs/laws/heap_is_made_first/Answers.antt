use Rattle.run_laws.proofs.HeapMadeFirst.{first_made_there, used_after_made}
use Rattle.run_laws.proofs.laws.heap_is_made_first.Goals as goal

pub returns-clause-made : goal.returns-clause-made
returns-clause-made c = used_after_made

pub returns-clause-first : goal.returns-clause-first
returns-clause-first c = first_made_there
