use Rattle.code_checker.proofs.Standing.{declarations_are_exact, rules_are_told, tokens_stand}
use Rattle.code_checker.proofs.laws.broken_rules_stand.Goals as goal

pub returns-clause-tokens : goal.returns-clause-tokens
returns-clause-tokens c = tokens_stand

pub returns-clause-told : goal.returns-clause-told
returns-clause-told c = rules_are_told

pub returns-clause-exact : goal.returns-clause-exact
returns-clause-exact c = declarations_are_exact
