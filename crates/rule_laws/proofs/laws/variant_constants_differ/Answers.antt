use Rattle.rule_laws.proofs.VariantLaw.{variant_law}
use Rattle.rule_laws.proofs.laws.variant_constants_differ.Goals as goal

pub returns : goal.returns
returns c = variant_law
