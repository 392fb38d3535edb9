use Rattle.std.proofs.Common.{subst}
use Rattle.pas_tree.specs.BlockTrees.{program_tree}
use Rattle.check_steps.specs.Breaks.{FaultIs}
use Rattle.code_checker.proofs.Standing.{rule_stands, too_big_stands}
use Rattle.code_checker.proofs.programs.check_tree.Goals as goal
use Rattle.code_checker.specs.CheckedPrograms.{broken}

pub place_of-line-requires : goal.place_of-line-requires
place_of-line-requires c =
    let first = subst (FaultIs (broken c.args.tokens.now (program_tree c.args.tree.now))) c.in-Err-Rule.field-0-is c.in-Err-Rule.ensures.fault in
    rule_stands c.args.tokens.now c.args.tree.now c.in-Err-Rule.rule c.in-Err-Rule.token c.requires.text first

pub place_of-line-requires-in-Err-TooBig : goal.place_of-line-requires-in-Err-TooBig
place_of-line-requires-in-Err-TooBig c =
    let first = subst (FaultIs (broken c.args.tokens.now (program_tree c.args.tree.now))) c.in-Err-TooBig.field-0-is c.in-Err-TooBig.ensures.fault in
    too_big_stands c.args.tokens.now c.args.tree.now c.in-Err-TooBig.token c.requires.text first

pub returns-in-Ok-clause-found : goal.returns-in-Ok-clause-found
returns-in-Ok-clause-found c = (c.args.tree.now, c.requires.text, (c.in-Ok.ensures.unbroken, c.in-Ok.ensures.program))

pub returns-in-Err-Rule-clause-refused : goal.returns-in-Err-Rule-clause-refused
returns-in-Err-Rule-clause-refused c =
    let first = subst (FaultIs (broken c.args.tokens.now (program_tree c.args.tree.now))) c.in-Err-Rule.field-0-is c.in-Err-Rule.ensures.fault in
    (c.args.tree.now, c.requires.text, (c.in-Err-Rule.token, first, c.place_of-line.ensures))

pub returns-in-Err-TooBig-clause-refused : goal.returns-in-Err-TooBig-clause-refused
returns-in-Err-TooBig-clause-refused c =
    let first = subst (FaultIs (broken c.args.tokens.now (program_tree c.args.tree.now))) c.in-Err-TooBig.field-0-is c.in-Err-TooBig.ensures.fault in
    (c.args.tree.now, c.requires.text, (c.in-Err-TooBig.token, first, c.place_of-line-in-Err-TooBig.ensures))
