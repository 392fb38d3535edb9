use Rattle.reference_oracle.proofs.WhatIsRead.{broken_tree, no_tree, program_of_tree}
use Rattle.reference_oracle.proofs.reading.read_text.Goals as goal

pub returns-in-Ok-clause-found : goal.returns-in-Ok-clause-found
returns-in-Ok-clause-found c = program_of_tree c.args.tokens.now c.in-Ok.tree c.read_checked.result c.in-Ok.ensures.found c.read_checked.ensures.found

pub returns-in-Ok-clause-refused : goal.returns-in-Ok-clause-refused
returns-in-Ok-clause-refused c = broken_tree c.args.tokens.now c.in-Ok.tree c.read_checked.result c.in-Ok.ensures.found c.read_checked.ensures.refused

pub returns-in-Err-clause-refused : goal.returns-in-Err-clause-refused
returns-in-Err-clause-refused c = no_tree c.args.tokens.now c.in-Err.fault c.in-Err.ensures.refused
