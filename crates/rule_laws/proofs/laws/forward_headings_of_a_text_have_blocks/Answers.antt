use Rattle.rule_laws.proofs.TextSplit.{text_forward_law}
use Rattle.rule_laws.proofs.laws.forward_headings_of_a_text_have_blocks.Goals as goal

pub returns : goal.returns
returns c = text_forward_law
