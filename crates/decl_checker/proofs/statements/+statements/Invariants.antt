use Rattle.std.proofs.Common.{◌≡◌, drop}
use Rattle.pas_tree.specs.StatementTrees.{case_tree, statements_tree}
use Rattle.pas_tree.specs.declared.statements.{Case.out-Case, Statements.out-Statements}
use Rattle.check_steps.specs.Steps.{each, run_step}
use Rattle.decl_checker.proofs.statements.+statements.Given as goal
use Rattle.decl_checker.specs.Statements.{case_uses, next_branch, next_statement, statements_uses}

abbrev pub invariant-use_statements-others : goal.invariant-use_statements-others
invariant-use_statements-others l =
    run_step (each (next_statement l.frame) tt (drop l.other-index (out-Statements l.s).others.items)) l.work ≡ run_step
    (statements_uses l.frame (statements_tree l.s)) l.fn.work

abbrev pub invariant-use_case-others : goal.invariant-use_case-others
invariant-use_case-others l =
    run_step (each (next_branch l.frame) tt (drop l.other-index (out-Case l.x).others.items)) l.work ≡ run_step (case_uses l.frame (case_tree l.x)) l.fn.work
