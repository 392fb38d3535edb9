use Rattle.grammar.proofs.Texts.{one_tree}
use Rattle.pas_tree.{proofs.Decided.pascal_decided, specs.FirstFollow.pascal, specs.Rules.program_rule}
use Rattle.pas_parser.proofs.laws.one_formed_tree.Goals as goal

pub returns : goal.returns
returns c = one_tree pascal program_rule pascal_decided 200
