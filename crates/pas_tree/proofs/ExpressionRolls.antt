-- The nodes of expressions that hold a vector.
use Rattle.std.proofs.Common.{◌≡◌, ℕ, Global, Option, Vec, map, refl}
use denote.Hole.Carrier.{roll}
use Rattle.grammar.specs.Nodes.{Pair, leaf, row}
use Rattle.grammar.specs.declared.terminals.Terminal.TheVariants as k
use Rattle.pas_tree.specs.Expressions as node
use Rattle.pas_tree.specs.Operators.{sign_node}
use Rattle.pas_tree.specs.declared.{expressions.NextExpression.NextExpression, expressions.NextExpression.NextExpression', operators.Sign.Sign}
use Rattle.pas_tree.specs.declared.expressions.{Arguments.roll-Arguments, Expression.Expression, Factor.Factor, Index.roll-Index, Member.Member, Members.Some}
use Rattle.pas_tree.specs.declared.expressions.{NextFactor.NextFactor, NextMember.NextMember, NextMember.NextMember', NextTerm.NextTerm, NextTerm.NextTerm'}
use Rattle.pas_tree.specs.declared.expressions.{Selector.Selector, Simple.roll-Simple, SomeMembers.roll-SomeMembers, Term.Term, Term.roll-Term}
use Rattle.pas_tree.specs.declared.expressions.Factor.TheBlock as b

-- ---- a vector's elements in their order

factors_row : (n : _) (r : b.Row_of-NextFactor n) → node.factors_node r ≡ row (map node.next_factor_node (b.items-the_row-NextFactor n r))
factors_row _ b.end_of-NextFactor = refl
factors_row _ (b.more_of-NextFactor operator factor rest) = rw (factors_row _ rest)

terms_row : (n : _) (r : b.Row_of-NextTerm n) → node.terms_node r ≡ row (map node.next_term_node (b.items-the_row-NextTerm n r))
terms_row _ b.end_of-NextTerm = refl
terms_row _ (b.more_of-NextTerm (NextTerm' operator term) rest) = rw (terms_row _ rest)

expressions_row : (n : _) (r : b.Row_of-NextExpression n) → node.expressions_node r ≡ row (map node.next_expression_node (b.items-the_row-NextExpression n r))
expressions_row _ b.end_of-NextExpression = refl
expressions_row _ (b.more_of-NextExpression (NextExpression' comma e) rest) = rw (expressions_row _ rest)

members_row : (n : _) (r : b.Row_of-NextMember n) → node.more_members_node r ≡ row (map node.next_member_node (b.items-the_row-NextMember n r))
members_row _ b.end_of-NextMember = refl
members_row _ (b.more_of-NextMember (NextMember' comma member) rest) = rw (members_row _ rest)

selectors_row : (n : _) (r : b.Row_of-Selector n) → node.selectors_node r ≡ row (map node.selector_node (b.items-the_row-Selector n r))
selectors_row _ b.end_of-Selector = refl
selectors_row _ (b.more_of-Selector s rest) = rw (selectors_row _ rest)

-- as they stand in an access that is a factor
pub selectors_hidden : (selectors : Vec Selector Global) → node.selectors_node (b.hidden-the_row-Selector-0 selectors) ≡ row
    (map node.selector_node selectors.items)
selectors_hidden selectors = rw (selectors_row, b.items_hidden-the_row-Selector-0)

-- ---- what holds them

pub term_rolled : (first : Factor) (others : Vec NextFactor Global)
    → node.term_node (roll-Term (record { first = first; others = others })) ≡ Pair (node.factor_node first) (row (map node.next_factor_node others.items))
unfolding roll-Term roll
term_rolled first others = rw (factors_row _ (b.hidden-the_row-NextFactor-4 others), b.items_hidden-the_row-NextFactor-4)

pub simple_rolled : (sign : Option Sign) (first : Term) (others : Vec NextTerm Global)
    → node.simple_node (roll-Simple (record { sign = sign; first = first; others = others }))
    ≡ Pair (sign_node sign) (Pair (node.term_node first) (row (map node.next_term_node others.items)))
unfolding roll-Simple roll
simple_rolled sign first others = rw (terms_row _ (b.hidden-the_row-NextTerm-2 others), b.items_hidden-the_row-NextTerm-2)

pub arguments_rolled : (open' : ℕ) (first : Expression) (others : Vec NextExpression Global) (close : ℕ)
    → node.arguments_node (roll-Arguments (record { «open» = open'; first = first; others = others; close = close }))
    ≡ Pair (leaf k.LeftParen open') (Pair (node.expression_node first) (Pair (row (map node.next_expression_node others.items)) (leaf k.RightParen close)))
unfolding roll-Arguments roll
arguments_rolled open' first others close = rw (expressions_row _ (b.hidden-the_row-NextExpression-1 others), b.items_hidden-the_row-NextExpression-1)

pub index_rolled : (open' : ℕ) (first : Expression) (others : Vec NextExpression Global) (close : ℕ)
    → node.index_node (roll-Index (record { «open» = open'; first = first; others = others; close = close }))
    ≡ Pair (leaf k.LeftBracket open') (Pair (node.expression_node first) (Pair (row (map node.next_expression_node others.items)) (leaf k.RightBracket close)))
unfolding roll-Index roll
index_rolled open' first others close = rw (expressions_row _ (b.hidden-the_row-NextExpression-1 others), b.items_hidden-the_row-NextExpression-1)

pub members_rolled : (open' : ℕ) (first : Member) (others : Vec NextMember Global) (close : ℕ)
    → node.members_node (Some (roll-SomeMembers (record { «open» = open'; first = first; others = others; close = close })))
    ≡ Pair (leaf k.LeftBracket open') (Pair (node.member_node first) (Pair (row (map node.next_member_node others.items)) (leaf k.RightBracket close)))
unfolding roll-SomeMembers roll
members_rolled open' first others close = rw (members_row _ (b.hidden-the_row-NextMember-3 others), b.items_hidden-the_row-NextMember-3)
