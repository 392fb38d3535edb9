use Rattle.rule_laws.proofs.TextEights.{text_eight_law}
use Rattle.rule_laws.proofs.laws.forward_headings_alone_lack_blocks.Goals as goal

pub returns : goal.returns
returns c = text_eight_law
