use Rattle.std.proofs.Common.{subst}
use Rattle.pas_tree.specs.BlockTrees.{program_tree}
use Rattle.decl_checker.specs.{Answers.EarlyFaultIs, Programs.broken_early}
use Rattle.code_checker.proofs.Standing.{declared_rule_stands}
use Rattle.code_checker.proofs.declarations.declare_tree.Goals as goal

pub place_of-line-requires : goal.place_of-line-requires
place_of-line-requires c =
    let first = subst (EarlyFaultIs (broken_early c.args.tokens.now (program_tree c.args.tree.now))) c.in-Err-Rule.field-0-is c.in-Err-Rule.ensures.fault in
    declared_rule_stands c.args.tokens.now c.args.tree.now c.in-Err-Rule.rule c.in-Err-Rule.token c.requires.text first
