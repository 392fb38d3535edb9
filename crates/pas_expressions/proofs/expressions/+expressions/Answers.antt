use Rattle.std.proofs.Common.{◌∙◌, Ok, ap, arith, refl, sym}
use denote.Hole.Carrier.{roll}
use Rattle.grammar.specs.{Nodes.Node, Reading.read}
use Rattle.grammar.specs.Grammars.{Grammar, factor, level, many, seq}
use Rattle.pas_tree.{proofs.ExpressionRolls.simple_rolled, proofs.ExpressionRolls.term_rolled, proofs.Parts.parts, specs.Rules.term_rule}
use Rattle.pas_tree.specs.Rules.{adding, multiplying, next_expression_rule, next_factor_rule, next_member_rule, next_term_rule, sign_rule, simple_rule}
use Rattle.pas_tree.specs.declared.expressions.{NextExpression.roll-NextExpression, NextMember.roll-NextMember, NextTerm.roll-NextTerm}
use Rattle.pas_phrases.{proofs.Failures.first_fails, proofs.Failures.handed_on, proofs.Failures.second_fails, proofs.Failures.seq_read, specs.Items.items_from}
use Rattle.pas_phrases.proofs.ReadLists.{level_fails, level_more, list_read, pair_fails, pair_more, token_fails}
use Rattle.pas_expressions.proofs.expressions.+expressions.Goals as goal

abbrev next_terms : Grammar
next_terms = many adding next_term_rule

abbrev next_factors : Grammar
next_factors = many multiplying next_factor_rule

pub read_simple-terms-preserved : goal.read_simple-terms-preserved
unfolding next_term_rule roll-NextTerm roll
read_simple-terms-preserved t c = record {
  so_far = pair_more parts.next_term c.terms.invariant.so_far c.in_ok-operator.ensures.gives c.in_ok-term.ensures.gives c.in_ok-push.ensures.items refl;
  forward = omega (arith, c.terms.invariant.forward, c.in_ok-operator.ensures.forward, c.in_ok-term.ensures.forward);
}

pub read_simple-returns-in_err-sign-clause-gives : goal.read_simple-returns-in_err-sign-clause-gives
unfolding read simple_rule sign_rule
read_simple-returns-in_err-sign-clause-gives t c =
    handed_on _ _ _ _ _ c.from_residual.ensures.1
    (first_fails c.args.depth sign_rule (seq term_rule next_terms) (items_from c.args.tokens.now c.args.at) _ _ c.in_err-sign.ensures.gives)

pub read_simple-returns-in_err-first-clause-gives : goal.read_simple-returns-in_err-first-clause-gives
unfolding read simple_rule sign_rule
read_simple-returns-in_err-first-clause-gives t c =
    handed_on _ _ _ _ _ c.from_residual-in_err-first.ensures.1
    (second_fails c.args.depth sign_rule (seq term_rule next_terms) (items_from c.args.tokens.now c.args.at) _ _ c.in_ok-sign.ensures.gives
    (first_fails c.args.depth term_rule next_terms (items_from c.args.tokens.now c.in_ok-sign.after) _ _ c.in_err-first.ensures.gives))

pub read_simple-returns-in_err-operator-clause-gives : goal.read_simple-returns-in_err-operator-clause-gives
unfolding read simple_rule sign_rule next_term_rule
read_simple-returns-in_err-operator-clause-gives t c =
    handed_on _ _ _ _ _ c.from_residual-in_err-operator.ensures.1
    (second_fails c.args.depth sign_rule (seq term_rule next_terms) (items_from c.args.tokens.now c.args.at) _ _ c.in_ok-sign.ensures.gives
    (second_fails c.args.depth term_rule next_terms (items_from c.args.tokens.now c.in_ok-sign.after) _ _ c.in_ok-first.ensures.gives
    (token_fails _ _ parts.next_term c.terms.invariant.so_far (cc) c.in_err-operator.ensures.gives)))

pub read_simple-returns-in_err-term-clause-gives : goal.read_simple-returns-in_err-term-clause-gives
unfolding read simple_rule sign_rule next_term_rule
read_simple-returns-in_err-term-clause-gives t c =
    handed_on _ _ _ _ _ c.from_residual-in_err-term.ensures.1
    (second_fails c.args.depth sign_rule (seq term_rule next_terms) (items_from c.args.tokens.now c.args.at) _ _ c.in_ok-sign.ensures.gives
    (second_fails c.args.depth term_rule next_terms (items_from c.args.tokens.now c.in_ok-sign.after) _ _ c.in_ok-first.ensures.gives
    (pair_fails _ _ parts.next_term c.terms.invariant.so_far c.in_ok-operator.ensures.gives c.in_err-term.ensures.gives)))

pub read_simple-returns-clause-gives : goal.read_simple-returns-clause-gives
unfolding read simple_rule sign_rule
read_simple-returns-clause-gives t c =
    let others = list_read parts.next_term c.terms.invariant.so_far (cc) in
    seq_read c.args.depth sign_rule (seq term_rule next_terms) (items_from c.args.tokens.now c.args.at) c.in_ok-sign.ensures.gives
    (seq_read c.args.depth term_rule next_terms (items_from c.args.tokens.now c.in_ok-sign.after) c.in_ok-first.ensures.gives others)
    ∙ ap (λ (y : Node). Ok (y, items_from c.args.tokens.now c.terms.next)) (sym (simple_rolled _ _ _))

pub read_term-factors-preserved : goal.read_term-factors-preserved
unfolding next_factor_rule
read_term-factors-preserved t c = record {
  so_far = level_more parts.next_factor c.factors.invariant.so_far c.in_ok-operator.ensures.gives c.in_ok-factor.ensures.gives c.in_ok-push.ensures.items refl;
  begun = c.factors.invariant.begun;
  forward = omega (arith, c.factors.invariant.forward, c.in_ok-operator.ensures.forward, c.in_ok-factor.ensures.forward);
}

pub read_term-returns-in_err-first-clause-gives : goal.read_term-returns-in_err-first-clause-gives
unfolding read term_rule
read_term-returns-in_err-first-clause-gives t c =
    handed_on _ _ _ _ _ c.from_residual.ensures.1 (first_fails c.args.depth (level factor) next_factors _ _ _ c.in_err-first.ensures.gives)

pub read_term-returns-in_err-operator-clause-gives : goal.read_term-returns-in_err-operator-clause-gives
unfolding read term_rule next_factor_rule
read_term-returns-in_err-operator-clause-gives t c =
    handed_on _ _ _ _ _ c.from_residual-in_err-operator.ensures.1
    (second_fails c.args.depth (level factor) next_factors _ _ _ c.in_ok-first.ensures.gives
    (token_fails _ _ parts.next_factor c.factors.invariant.so_far (cc) c.in_err-operator.ensures.gives))

pub read_term-returns-in_err-factor-clause-gives : goal.read_term-returns-in_err-factor-clause-gives
unfolding read term_rule next_factor_rule
read_term-returns-in_err-factor-clause-gives t c =
    handed_on _ _ _ _ _ c.from_residual-in_err-factor.ensures.1
    (second_fails c.args.depth (level factor) next_factors _ _ _ c.in_ok-first.ensures.gives
    (level_fails _ _ parts.next_factor c.factors.invariant.so_far c.in_ok-operator.ensures.gives c.in_err-factor.ensures.gives))

pub read_term-returns-clause-gives : goal.read_term-returns-clause-gives
unfolding read term_rule
read_term-returns-clause-gives t c =
    let others = list_read parts.next_factor c.factors.invariant.so_far (cc) in
    seq_read c.args.depth (level factor) next_factors (items_from c.args.tokens.now c.args.at) c.factors.invariant.begun others
    ∙ ap (λ (y : Node). Ok (y, items_from c.args.tokens.now c.factors.next)) (sym (term_rolled _ _))

pub read_next_expressions-expressions-preserved : goal.read_next_expressions-expressions-preserved
unfolding next_expression_rule roll-NextExpression roll
read_next_expressions-expressions-preserved t c = record {
  so_far = pair_more parts.next_expression c.expressions.invariant.so_far c.in_ok-comma.ensures.gives c.in_ok-expression.ensures.gives
      c.in_ok-push.ensures.items refl;
  forward = omega (arith, c.expressions.invariant.forward, c.in_ok-comma.ensures.forward, c.in_ok-expression.ensures.forward);
}

pub read_next_expressions-returns-in_err-comma-clause-gives : goal.read_next_expressions-returns-in_err-comma-clause-gives
unfolding next_expression_rule
read_next_expressions-returns-in_err-comma-clause-gives t c =
    handed_on _ _ _ _ _ c.from_residual.ensures.1
    (token_fails _ _ parts.next_expression c.expressions.invariant.so_far (cc) c.in_err-comma.ensures.gives)

pub read_next_expressions-returns-in_err-expression-clause-gives : goal.read_next_expressions-returns-in_err-expression-clause-gives
unfolding next_expression_rule
read_next_expressions-returns-in_err-expression-clause-gives t c =
    handed_on _ _ _ _ _ c.from_residual-in_err-expression.ensures.1
    (pair_fails _ _ parts.next_expression c.expressions.invariant.so_far c.in_ok-comma.ensures.gives c.in_err-expression.ensures.gives)

pub read_next_expressions-returns-clause-gives : goal.read_next_expressions-returns-clause-gives
read_next_expressions-returns-clause-gives t c = list_read parts.next_expression c.expressions.invariant.so_far (cc)

pub read_next_members-members-preserved : goal.read_next_members-members-preserved
unfolding next_member_rule roll-NextMember roll
read_next_members-members-preserved t c = record {
  so_far = pair_more parts.next_member c.members.invariant.so_far c.in_ok-comma.ensures.gives c.in_ok-member.ensures.gives c.in_ok-push.ensures.items refl;
  forward = omega (arith, c.members.invariant.forward, c.in_ok-comma.ensures.forward, c.in_ok-member.ensures.forward);
}

pub read_next_members-returns-in_err-comma-clause-gives : goal.read_next_members-returns-in_err-comma-clause-gives
unfolding next_member_rule
read_next_members-returns-in_err-comma-clause-gives t c =
    handed_on _ _ _ _ _ c.from_residual.ensures.1
    (token_fails _ _ parts.next_member c.members.invariant.so_far (cc) c.in_err-comma.ensures.gives)

pub read_next_members-returns-in_err-member-clause-gives : goal.read_next_members-returns-in_err-member-clause-gives
unfolding next_member_rule
read_next_members-returns-in_err-member-clause-gives t c =
    handed_on _ _ _ _ _ c.from_residual-in_err-member.ensures.1
    (pair_fails _ _ parts.next_member c.members.invariant.so_far c.in_ok-comma.ensures.gives c.in_err-member.ensures.gives)

pub read_next_members-returns-clause-gives : goal.read_next_members-returns-clause-gives
read_next_members-returns-clause-gives t c = list_read parts.next_member c.members.invariant.so_far (cc)
