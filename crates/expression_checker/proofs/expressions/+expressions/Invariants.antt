use Rattle.std.proofs.Common.{◌≡◌, drop}
use Rattle.pas_tree.specs.ExpressionTrees.{arguments_tree, index_tree, members_tree, simple_tree, term_tree}
use Rattle.pas_tree.specs.declared.expressions.{Arguments.out-Arguments, Index.out-Index, Simple.out-Simple, SomeMembers.out-SomeMembers, Term.out-Term}
use Rattle.check_steps.specs.Steps.{◌>>=◌, each, run_step}
use Rattle.expression_checker.proofs.expressions.+expressions.Given as goal
use Rattle.expression_checker.specs.{Callees.applied, Expressions.simple, Expressions.term, Members.set_constructor}
use Rattle.expression_checker.specs.Expressions.{call, constructor, index_at, next_argument, next_factor, next_index, next_member, next_selector, next_term}

abbrev pub invariant-check_simple-others : goal.invariant-check_simple-others
invariant-check_simple-others l =
    run_step (each (next_term l.frame) l.value (drop l.other-index (out-Simple l.s).others.items)) l.work ≡ run_step (simple l.frame (simple_tree l.s))
    l.fn.work

abbrev pub invariant-check_term-others : goal.invariant-check_term-others
invariant-check_term-others l =
    run_step (each (next_factor l.frame) l.value (drop l.other-index (out-Term l.t).others.items)) l.work ≡ run_step (term l.frame (term_tree l.t)) l.fn.work

abbrev pub invariant-check_call-others : goal.invariant-check_call-others
invariant-check_call-others l =
    run_step (each (next_argument l.frame) l.passing (drop l.other-index (out-Arguments l.a).others.items)
    >>= λ all. applied l.name l.called.callee all.value (out-Arguments l.a).«open») l.work
    ≡ run_step (call l.frame l.name l.fn.count (arguments_tree l.a)) l.fn.work

abbrev pub invariant-check_selectors-selectors : goal.invariant-check_selectors-selectors
invariant-check_selectors-selectors l =
    run_step (each (next_selector l.frame) l.place (drop l.selector-index l.selectors)) l.work ≡ run_step (each (next_selector l.frame) l.fn.root l.selectors)
    l.fn.work

abbrev pub invariant-check_index-others : goal.invariant-check_index-others
invariant-check_index-others l =
    run_step (each (next_index l.frame) l.part (drop l.other-index (out-Index l.x).others.items)) l.work ≡ run_step
    (index_at l.frame l.fn.place (index_tree l.x)) l.fn.work

abbrev pub invariant-check_constructor-others : goal.invariant-check_constructor-others
invariant-check_constructor-others l =
    run_step (each (next_member l.frame) l.gathered (drop l.other-index (out-SomeMembers l.members).others.items)
    >>= λ all. set_constructor all (out-SomeMembers l.members).«open» (out-SomeMembers l.members).close) l.work
    ≡ run_step (constructor l.frame (members_tree l.m)) l.fn.work
