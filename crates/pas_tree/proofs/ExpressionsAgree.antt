-- The nodes of expressions are those of their trees without memory.
use Rattle.std.proofs.Common.{◌≡◌, refl}
use Rattle.grammar.specs.Nodes.{Pair, leaf}
use Rattle.grammar.specs.declared.terminals.Terminal.TheVariants as k
use Rattle.pas_tree.specs.ExpressionTrees as tree_expressions
use Rattle.pas_tree.specs.Expressions as expressions
use Rattle.pas_tree.specs.Operators.{adding_node, multiplying_node, relational_node, sign_node}
use Rattle.pas_tree.specs.TreeNodes as node
use Rattle.pas_tree.specs.declared.expressions.{Access.Row_of-Selector, Access.end_of-Selector, Access.more_of-Selector, Expression.Held-Expression-relation}
use Rattle.pas_tree.specs.declared.expressions.{Index.Index as IndexTree, Index.Index', Members.Empty, Members.Members, Members.Some}
use Rattle.pas_tree.specs.declared.expressions.{NextExpression.NextExpression', NextMember.NextMember', NextTerm.NextTerm', RangeEnd.RangeEnd'}
use Rattle.pas_tree.specs.declared.expressions.{Relation.Relation', Selector.Dereference, Selector.Field, Selector.Index, Selector.Selector}
use Rattle.pas_tree.specs.declared.expressions.Arguments.{Arguments, Arguments', Row_of-NextExpression, end_of-NextExpression, more_of-NextExpression}
use Rattle.pas_tree.specs.declared.expressions.Expression.{Expression, Expression', Expression-relation-None', Expression-relation-Some'}
use Rattle.pas_tree.specs.declared.expressions.Factor.{Access', Call', Factor, Nil, Not', Number, Paren', Set', Text}
use Rattle.pas_tree.specs.declared.expressions.Member.{Held-Member-last, Member, Member', Member-last-None', Member-last-Some'}
use Rattle.pas_tree.specs.declared.expressions.Simple.{Row_of-NextTerm, Simple, Simple', end_of-NextTerm, more_of-NextTerm}
use Rattle.pas_tree.specs.declared.expressions.SomeMembers.{Row_of-NextMember, SomeMembers', end_of-NextMember, more_of-NextMember}
use Rattle.pas_tree.specs.declared.expressions.Term.{Row_of-NextFactor, Term, Term', end_of-NextFactor, more_of-NextFactor}

mutual
  pub expression_same : (x : Expression) → expressions.expression_node x ≡ node.expression_node (tree_expressions.expression_tree x)
  expression_same (Expression' left relation) =
      λ i. Pair (simple_same left i) (relation_same relation i)

  relation_same : (x : Held-Expression-relation) → expressions.relation_node x ≡ node.relation_node (tree_expressions.relation_tree x)
  relation_same Expression-relation-None' = refl
  relation_same (Expression-relation-Some' (Relation' operator right)) =
      λ i. Pair (relational_node operator) (simple_same right i)

  simple_same : (x : Simple) → expressions.simple_node x ≡ node.simple_node (tree_expressions.simple_tree x)
  simple_same (Simple' sign first _ others) =
      λ i. Pair (sign_node sign) (Pair (term_same first i) (terms_same others i))

  terms_same : {m : _} (x : Row_of-NextTerm m) → expressions.terms_node x ≡ node.terms_node (tree_expressions.term_row x)
  terms_same end_of-NextTerm = refl
  terms_same (more_of-NextTerm (NextTerm' operator term) rest) =
      λ i. Pair (Pair (adding_node operator) (term_same term i)) (terms_same rest i)

  term_same : (x : Term) → expressions.term_node x ≡ node.term_node (tree_expressions.term_tree x)
  term_same (Term' first _ others) =
      λ i. Pair (factor_same first i) (factors_same others i)

  factors_same : {m : _} (x : Row_of-NextFactor m) → expressions.factors_node x ≡ node.factors_node (tree_expressions.factor_row x)
  factors_same end_of-NextFactor = refl
  factors_same (more_of-NextFactor operator factor rest) =
      λ i. Pair (Pair (multiplying_node operator) (factor_same factor i)) (factors_same rest i)

  factor_same : (x : Factor) → expressions.factor_node x ≡ node.factor_node (tree_expressions.factor_tree x)
  factor_same (Number n) = refl
  factor_same (Text n) = refl
  factor_same (Nil n) = refl
  factor_same (Access' name _ selectors) =
      λ i. Pair (leaf k.Name name) (selectors_same selectors i)
  factor_same (Call' name _ arguments) =
      λ i. Pair (leaf k.Name name) (arguments_same arguments i)
  factor_same (Paren' open' _ e close) =
      λ i. Pair (leaf k.LeftParen open') (Pair (expression_same e i) (leaf k.RightParen close))
  factor_same (Set' _ members) = members_same members
  factor_same (Not' n _ f) =
      λ i. Pair (leaf k.WNot n) (factor_same f i)

  selectors_same : {m : _} (x : Row_of-Selector m) → expressions.selectors_node x ≡ node.selectors_node (tree_expressions.selector_row x)
  selectors_same end_of-Selector = refl
  selectors_same (more_of-Selector s rest) =
      λ i. Pair (selector_same s i) (selectors_same rest i)

  pub selector_same : (x : Selector) → expressions.selector_node x ≡ node.selector_node (tree_expressions.selector_tree x)
  selector_same (Index i) = index_same i
  selector_same (Field dot name) = refl
  selector_same (Dereference n) = refl

  index_same : (x : IndexTree) → expressions.index_node x ≡ node.index_node (tree_expressions.index_tree x)
  index_same (Index' open' first _ others close) =
      λ i. Pair (leaf k.LeftBracket open') (Pair (expression_same first i) (Pair (expressions_same others i) (leaf k.RightBracket close)))

  arguments_same : (x : Arguments) → expressions.arguments_node x ≡ node.arguments_node (tree_expressions.arguments_tree x)
  arguments_same (Arguments' open' first _ others close) =
      λ i. Pair (leaf k.LeftParen open') (Pair (expression_same first i) (Pair (expressions_same others i) (leaf k.RightParen close)))

  expressions_same : {m : _} (x : Row_of-NextExpression m) → expressions.expressions_node x ≡ node.expressions_node (tree_expressions.expression_row x)
  expressions_same end_of-NextExpression = refl
  expressions_same (more_of-NextExpression (NextExpression' comma e) rest) =
      λ i. Pair (Pair (leaf k.Comma comma) (expression_same e i)) (expressions_same rest i)

  members_same : (x : Members) → expressions.members_node x ≡ node.members_node (tree_expressions.members_tree x)
  members_same (Empty open' close) = refl
  members_same (Some (SomeMembers' open' first _ others close)) =
      λ i. Pair (leaf k.LeftBracket open') (Pair (member_same first i) (Pair (more_members_same others i) (leaf k.RightBracket close)))

  more_members_same : {m : _} (x : Row_of-NextMember m) → expressions.more_members_node x ≡ node.more_members_node (tree_expressions.member_row x)
  more_members_same end_of-NextMember = refl
  more_members_same (more_of-NextMember (NextMember' comma member) rest) =
      λ i. Pair (Pair (leaf k.Comma comma) (member_same member i)) (more_members_same rest i)

  member_same : (x : Member) → expressions.member_node x ≡ node.member_node (tree_expressions.member_tree x)
  member_same (Member' first last) =
      λ i. Pair (expression_same first i) (range_end_same last i)

  range_end_same : (x : Held-Member-last) → expressions.range_end_node x ≡ node.range_end_node (tree_expressions.range_tree x)
  range_end_same Member-last-None' = refl
  range_end_same (Member-last-Some' (RangeEnd' range last)) =
      λ i. Pair (leaf k.Range range) (expression_same last i)
