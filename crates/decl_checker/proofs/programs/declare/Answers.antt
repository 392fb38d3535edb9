use Rattle.std.proofs.lemmas.Result.{err_from_is_err_and}
use Rattle.pas_tree.specs.BlockTrees.{program_tree}
use Rattle.decl_checker.proofs.Declared.{leaves, told_fault, told_tables, told_unbroken}
use Rattle.decl_checker.proofs.programs.declare.Goals as goal

pub returns-clause-tables : goal.returns-clause-tables
returns-clause-tables c =
    let tree = program_tree c.args.tree.now in
    let left = leaves c.args.tokens.now tree c.in_ok-work.work c.check_program.new.work c.in_ok-work.ensures c.in_ok-check_program.ensures in
    told_tables c.answer.result c.args.tokens.now tree c.check_program.new.work left c.answer.ensures.tables

pub returns-clause-unbroken : goal.returns-clause-unbroken
returns-clause-unbroken c =
    let tree = program_tree c.args.tree.now in
    let left = leaves c.args.tokens.now tree c.in_ok-work.work c.check_program.new.work c.in_ok-work.ensures c.in_ok-check_program.ensures in
    told_unbroken c.answer.result c.args.tokens.now tree c.check_program.new.work left c.answer.ensures.unbroken

pub returns-clause-fault : goal.returns-clause-fault
returns-clause-fault c =
    let tree = program_tree c.args.tree.now in
    let left = leaves c.args.tokens.now tree c.in_ok-work.work c.check_program.new.work c.in_ok-work.ensures c.in_ok-check_program.ensures in
    told_fault c.answer.result c.args.tokens.now tree c.check_program.new.work left c.answer.ensures.fault

pub returns-in_err-check_program-clause-fault : goal.returns-in_err-check_program-clause-fault
returns-in_err-check_program-clause-fault c =
    let p = err_from_is_err_and c.from_residual-in_err-check_program.result c.from_residual-in_err-check_program.ensures.1 in rw (p.1, p.2) tt
