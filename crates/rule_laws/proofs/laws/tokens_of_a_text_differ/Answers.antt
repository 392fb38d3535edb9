use Rattle.rule_laws.proofs.TextTokens.{text_law}
use Rattle.rule_laws.proofs.laws.tokens_of_a_text_differ.Goals as goal

pub returns : goal.returns
returns c = text_law
