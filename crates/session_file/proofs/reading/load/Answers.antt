use Rattle.std.proofs.Common.{inr, sym}
use Rattle.session_file.proofs.{LoadedIsWhole.loaded_whole, Loading.is_text, Loading.no_text}
use Rattle.session_file.proofs.reading.load.Goals as goal

pub returns-in-Ok-clause-answer : goal.returns-in-Ok-clause-answer
returns-in-Ok-clause-answer c = rw (is_text c.args.bytes.now c.in-Ok.ensures.cases.1, sym c.in-Ok.ensures.cases.0) c.loaded.ensures

pub returns-in-Ok-clause-whole : goal.returns-in-Ok-clause-whole
returns-in-Ok-clause-whole c = loaded_whole c.args.bytes.now _ (returns-in-Ok-clause-answer c)

pub returns-in-Err-clause-answer : goal.returns-in-Err-clause-answer
returns-in-Err-clause-answer c = inr (sym (no_text c.args.bytes.now c.in-Err.ensures.cases.0))
