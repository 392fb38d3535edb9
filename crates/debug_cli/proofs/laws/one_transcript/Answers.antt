use Rattle.debug_cli.proofs.TranscriptsAreOne.{one_transcript}
use Rattle.debug_cli.proofs.laws.one_transcript.Goals as goal

pub returns : goal.returns
returns c = λ s start. one_transcript c.one_reading.ensures s start
