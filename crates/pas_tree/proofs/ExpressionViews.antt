-- The trees of expressions by the fields of what the code holds.
use Rattle.std.proofs.Common.{◌∙◌, ◌≡◌, None, Option, Some, ap, refl}
use denote.Hole.Carrier.{out, roll}
use Rattle.pas_tree.specs.ExpressionTrees as tree
use Rattle.pas_tree.specs.declared.expressions.{Access.more_of-Selector, Index.Index, Index.is-Index', Index.out-Index, Member.Member, Member.back-Member-last}
use Rattle.pas_tree.specs.declared.expressions.{Member.is-Member', Member.out-Member, Members.Some as SomeOf, NextExpression.NextExpression'}
use Rattle.pas_tree.specs.declared.expressions.{NextExpression.out-NextExpression, NextMember.NextMember', NextMember.out-NextMember, NextTerm.NextTerm'}
use Rattle.pas_tree.specs.declared.expressions.{NextTerm.out-NextTerm, RangeEnd.RangeEnd, RangeEnd.RangeEnd', RangeEnd.out-RangeEnd, Relation.Relation}
use Rattle.pas_tree.specs.declared.expressions.{Relation.Relation', Relation.out-Relation, Simple.items_hidden-the_row-NextTerm-2, Simple.more_of-NextTerm}
use Rattle.pas_tree.specs.declared.expressions.{Simple.out-Simple, Term.items_hidden-the_row-NextFactor-4, Term.more_of-NextFactor, Term.out-Term}
use Rattle.pas_tree.specs.declared.expressions.Access.{Access, Row_of-Selector, end_of-Selector, items-the_row-Selector, items_hidden-the_row-Selector-0}
use Rattle.pas_tree.specs.declared.expressions.Arguments.{Arguments, Row_of-NextExpression, end_of-NextExpression, is-Arguments', items-the_row-NextExpression}
use Rattle.pas_tree.specs.declared.expressions.Arguments.{items_hidden-the_row-NextExpression-1, more_of-NextExpression, out-Arguments}
use Rattle.pas_tree.specs.declared.expressions.Expression.{Expression, back-Expression-relation, is-Expression', out-Expression}
use Rattle.pas_tree.specs.declared.expressions.Factor.{TheBlock.hidden-the_row-NextTerm-2, TheBlock.hidden-the_row-Selector-0, TheViews.roll-Factor}
use Rattle.pas_tree.specs.declared.expressions.Factor.TheBlock.{hidden-the_row-NextExpression-1, hidden-the_row-NextFactor-4, hidden-the_row-NextMember-3}
use Rattle.pas_tree.specs.declared.expressions.Factor.TheVariants as made
use Rattle.pas_tree.specs.declared.expressions.Simple.{Row_of-NextTerm, Simple, end_of-NextTerm, is-Simple', items-the_row-NextTerm}
use Rattle.pas_tree.specs.declared.expressions.SomeMembers.{Row_of-NextMember, SomeMembers, end_of-NextMember, is-SomeMembers', items-the_row-NextMember}
use Rattle.pas_tree.specs.declared.expressions.SomeMembers.{items_hidden-the_row-NextMember-3, more_of-NextMember, out-SomeMembers}
use Rattle.pas_tree.specs.declared.expressions.Term.{Row_of-NextFactor, Term, end_of-NextFactor, is-Term', items-the_row-NextFactor}

factor_rows : (n : _) (r : Row_of-NextFactor n) → tree.factor_row r ≡ tree.factor_trees (items-the_row-NextFactor n r)
factor_rows _ end_of-NextFactor = refl
factor_rows _ (more_of-NextFactor operator x rest) = ap (tree.more_factors operator (tree.factor_tree x)) (factor_rows _ rest)

pub term_view : (t : Term) → tree.term_tree t ≡ tree.a_term (tree.factor_tree (out-Term t).first) (tree.factor_trees (out-Term t).others.items)
term_view t =
    let o = out-Term t in
    ap tree.term_tree (is-Term' t)
    ∙ ap (tree.a_term (tree.factor_tree o.first)) (factor_rows _ (hidden-the_row-NextFactor-4 o.others)
    ∙ ap tree.factor_trees (items_hidden-the_row-NextFactor-4 o.others))

term_rows : (n : _) (r : Row_of-NextTerm n) → tree.term_row r ≡ tree.term_trees (items-the_row-NextTerm n r)
unfolding out-NextTerm out
term_rows _ end_of-NextTerm = refl
term_rows _ (more_of-NextTerm (NextTerm' operator x) rest) = ap (tree.more_terms operator (tree.term_tree x)) (term_rows _ rest)

pub simple_view : (s : Simple) → tree.simple_tree s
    ≡ tree.a_simple (out-Simple s).sign (tree.term_tree (out-Simple s).first) (tree.term_trees (out-Simple s).others.items)
simple_view s =
    let o = out-Simple s in
    ap tree.simple_tree (is-Simple' s)
    ∙ ap (tree.a_simple o.sign (tree.term_tree o.first)) (term_rows _ (hidden-the_row-NextTerm-2 o.others)
    ∙ ap tree.term_trees (items_hidden-the_row-NextTerm-2 o.others))

relation_held : (r : Option Relation) → tree.relation_tree (back-Expression-relation r) ≡ tree.relation_in r
unfolding out-Relation out
relation_held None = refl
relation_held (Some (Relation' operator right)) = refl

pub expression_view : (e : Expression) → tree.expression_tree e
    ≡ tree.an_expression (tree.simple_tree (out-Expression e).left) (tree.relation_in (out-Expression e).relation)
expression_view e =
    let o = out-Expression e in
    ap tree.expression_tree (is-Expression' e) ∙ ap (tree.an_expression (tree.simple_tree o.left)) (relation_held o.relation)

selector_rows : (n : _) (r : Row_of-Selector n) → tree.selector_row r ≡ tree.selector_trees (items-the_row-Selector n r)
selector_rows _ end_of-Selector = refl
selector_rows _ (more_of-Selector s rest) = ap (tree.more_selectors (tree.selector_tree s)) (selector_rows _ rest)

pub access_view : (a : Access) → tree.factor_tree (made.Access a) ≡ tree.an_access a.name (tree.selector_trees a.selectors.items)
unfolding roll-Factor roll hidden-the_row-Selector-0
access_view a =
    ap (tree.an_access a.name) (selector_rows _ (hidden-the_row-Selector-0 a.selectors)
    ∙ ap tree.selector_trees (items_hidden-the_row-Selector-0 a.selectors))

expression_rows : (n : _) (r : Row_of-NextExpression n) → tree.expression_row r ≡ tree.expression_trees (items-the_row-NextExpression n r)
unfolding out-NextExpression out
expression_rows _ end_of-NextExpression = refl
expression_rows _ (more_of-NextExpression (NextExpression' comma e) rest) =
    ap (tree.more_expressions comma (tree.expression_tree e)) (expression_rows _ rest)

pub arguments_view : (a : Arguments) → tree.arguments_tree a ≡ tree.argument_list (out-Arguments a).«open» (tree.expression_tree (out-Arguments a).first)
    (tree.expression_trees (out-Arguments a).others.items) (out-Arguments a).close
arguments_view a =
    let o = out-Arguments a in
    ap tree.arguments_tree (is-Arguments' a)
    ∙ ap (λ xs. tree.argument_list o.«open» (tree.expression_tree o.first) xs o.close) (expression_rows _ (hidden-the_row-NextExpression-1 o.others)
    ∙ ap tree.expression_trees (items_hidden-the_row-NextExpression-1 o.others))

pub index_view : (x : Index) → tree.index_tree x ≡ tree.index_list (out-Index x).«open» (tree.expression_tree (out-Index x).first)
    (tree.expression_trees (out-Index x).others.items) (out-Index x).close
index_view x =
    let o = out-Index x in
    ap tree.index_tree (is-Index' x)
    ∙ ap (λ xs. tree.index_list o.«open» (tree.expression_tree o.first) xs o.close) (expression_rows _ (hidden-the_row-NextExpression-1 o.others)
    ∙ ap tree.expression_trees (items_hidden-the_row-NextExpression-1 o.others))

member_rows : (n : _) (r : Row_of-NextMember n) → tree.member_row r ≡ tree.member_trees (items-the_row-NextMember n r)
unfolding out-NextMember out
member_rows _ end_of-NextMember = refl
member_rows _ (more_of-NextMember (NextMember' comma m) rest) = ap (tree.more_members comma (tree.member_tree m)) (member_rows _ rest)

pub members_view : (m : SomeMembers) → tree.members_tree (SomeOf m) ≡ tree.some_members (out-SomeMembers m).«open» (tree.member_tree (out-SomeMembers m).first)
    (tree.member_trees (out-SomeMembers m).others.items) (out-SomeMembers m).close
members_view m =
    let o = out-SomeMembers m in
    ap (λ x. tree.members_tree (SomeOf x)) (is-SomeMembers' m)
    ∙ ap (λ xs. tree.some_members o.«open» (tree.member_tree o.first) xs o.close) (member_rows _ (hidden-the_row-NextMember-3 o.others)
    ∙ ap tree.member_trees (items_hidden-the_row-NextMember-3 o.others))

range_held : (r : Option RangeEnd) → tree.range_tree (back-Member-last r) ≡ tree.range_in r
unfolding out-RangeEnd out
range_held None = refl
range_held (Some (RangeEnd' dots last)) = refl

pub member_view : (m : Member) → tree.member_tree m ≡ tree.a_member (tree.expression_tree (out-Member m).first) (tree.range_in (out-Member m).last)
member_view m =
    let o = out-Member m in
    ap tree.member_tree (is-Member' m) ∙ ap (tree.a_member (tree.expression_tree o.first)) (range_held o.last)
