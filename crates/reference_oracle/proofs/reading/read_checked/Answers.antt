use Rattle.std.proofs.Common.{subst}
use Rattle.pas_tree.specs.BlockTrees.{program_tree}
use Rattle.check_steps.specs.Breaks.{FaultIs}
use Rattle.code_checker.{proofs.Standing.rule_stands, proofs.Standing.too_big_stands, specs.CheckedPrograms.broken}
use Rattle.reference_oracle.proofs.reading.read_checked.Goals as goal

pub place_of-line-requires : goal.place_of-line-requires
place_of-line-requires c =
    let first = subst (FaultIs (broken c.args.tokens.now (program_tree c.args.tree.now))) c.in-Err-Rule.field-0-is c.in-Err-Rule.ensures.fault in
    rule_stands c.args.tokens.now c.args.tree.now c.in-Err-Rule.rule c.in-Err-Rule.token c.requires.text first

pub place_of-line-requires-in-Err-TooBig : goal.place_of-line-requires-in-Err-TooBig
place_of-line-requires-in-Err-TooBig c =
    let first = subst (FaultIs (broken c.args.tokens.now (program_tree c.args.tree.now))) c.in-Err-TooBig.field-0-is c.in-Err-TooBig.ensures.fault in
    too_big_stands c.args.tokens.now c.args.tree.now c.in-Err-TooBig.token c.requires.text first
