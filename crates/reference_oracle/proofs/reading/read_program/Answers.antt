use Rattle.reference_oracle.proofs.WhatIsRead.{no_tokens, program_of_tokens, unchecked_tokens}
use Rattle.reference_oracle.proofs.reading.read_program.Goals as goal

pub returns-in-Ok-clause-found : goal.returns-in-Ok-clause-found
returns-in-Ok-clause-found c = program_of_tokens c.args.bytes.now c.in-Ok.tokens c.read_text.result c.in-Ok.ensures.found c.read_text.ensures.found

pub returns-in-Ok-clause-refused : goal.returns-in-Ok-clause-refused
returns-in-Ok-clause-refused c = unchecked_tokens c.args.bytes.now c.in-Ok.tokens c.read_text.result c.in-Ok.ensures.found c.read_text.ensures.refused

pub returns-in-Err-clause-refused : goal.returns-in-Err-clause-refused
returns-in-Err-clause-refused c = no_tokens c.args.bytes.now c.in-Err.fault c.in-Err.ensures.refused
