use Rattle.std.proofs.lemmas.Result.{err_from_is_err_and}
use Rattle.pas_tree.specs.BlockTrees.{program_tree}
use Rattle.code_checker.proofs.Told.{leaves, told_fault, told_program, told_unbroken}
use Rattle.code_checker.proofs.checked_programs.known_tables.Goals as goal

pub returns-clause-program : goal.returns-clause-program
returns-clause-program c =
    let tree = program_tree c.args.tree.now in
    let left = leaves c.args.tokens.now tree c.in_ok-work.work c.check_tree.new.work c.in_ok-work.ensures c.in_ok-check_tree.ensures in
    told_program c.answer.result c.args.tokens.now tree c.check_tree.new.work left c.answer.ensures.program

pub returns-clause-unbroken : goal.returns-clause-unbroken
returns-clause-unbroken c =
    let tree = program_tree c.args.tree.now in
    let left = leaves c.args.tokens.now tree c.in_ok-work.work c.check_tree.new.work c.in_ok-work.ensures c.in_ok-check_tree.ensures in
    told_unbroken c.answer.result c.args.tokens.now tree c.check_tree.new.work left c.answer.ensures.unbroken

pub returns-clause-fault : goal.returns-clause-fault
returns-clause-fault c =
    let tree = program_tree c.args.tree.now in
    let left = leaves c.args.tokens.now tree c.in_ok-work.work c.check_tree.new.work c.in_ok-work.ensures c.in_ok-check_tree.ensures in
    told_fault c.answer.result c.args.tokens.now tree c.check_tree.new.work left c.answer.ensures.fault

pub returns-in_err-check_tree-clause-fault : goal.returns-in_err-check_tree-clause-fault
returns-in_err-check_tree-clause-fault c =
    let p = err_from_is_err_and c.from_residual-in_err-check_tree.result c.from_residual-in_err-check_tree.ensures.1 in rw (p.1, p.2) tt
