use Rattle.std.proofs.Common.{◌≡◌, drop}
use Rattle.pas_tree.specs.ExpressionTrees.{access_tree, arguments_tree, index_tree, members_tree, simple_tree, term_tree}
use Rattle.pas_tree.specs.declared.expressions.{Arguments.out-Arguments, Index.out-Index, Simple.out-Simple, Term.out-Term}
use Rattle.check_steps.specs.Steps.{each, run_step}
use Rattle.decl_checker.proofs.expressions.+expressions.Given as goal
use Rattle.decl_checker.specs.Accesses.{access_type, arguments_uses, indices, members_uses, next_argument, next_factor, next_index, next_member, next_selector}
use Rattle.decl_checker.specs.Accesses.{next_term, simple_uses, term_uses}

abbrev pub invariant-use_simple-others : goal.invariant-use_simple-others
invariant-use_simple-others l =
    run_step (each (next_term l.frame) tt (drop l.other-index (out-Simple l.s).others.items)) l.work ≡ run_step (simple_uses l.frame (simple_tree l.s))
    l.fn.work

abbrev pub invariant-use_term-others : goal.invariant-use_term-others
invariant-use_term-others l =
    run_step (each (next_factor l.frame) tt (drop l.other-index (out-Term l.t).others.items)) l.work ≡ run_step (term_uses l.frame (term_tree l.t)) l.fn.work

abbrev pub invariant-check_access-selectors : goal.invariant-check_access-selectors
invariant-check_access-selectors l =
    run_step (each (next_selector l.frame l.a.name) l.part (drop l.selector-index l.a.selectors.items)) l.work
    ≡ run_step (access_type l.frame (access_tree l.a)) l.fn.work

abbrev pub invariant-check_indices-others : goal.invariant-check_indices-others
invariant-check_indices-others l =
    run_step (each (next_index l.frame l.unknown) l.part (drop l.other-index (out-Index l.x).others.items)) l.work
    ≡ run_step (indices l.frame l.unknown l.kind (index_tree l.x)) l.fn.work

abbrev pub invariant-use_arguments-others : goal.invariant-use_arguments-others
invariant-use_arguments-others l =
    run_step (each (next_argument l.frame) tt (drop l.other-index (out-Arguments l.a).others.items)) l.work
    ≡ run_step (arguments_uses l.frame (arguments_tree l.a)) l.fn.work

abbrev pub invariant-use_members-others : goal.invariant-use_members-others
invariant-use_members-others l =
    run_step (each (next_member l.frame) tt (drop l.other-index l.other-items)) l.work ≡ run_step (members_uses l.frame (members_tree l.m)) l.fn.work
