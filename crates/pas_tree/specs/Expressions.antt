-- Expressions and accesses as nodes: what they say, without where they lie in memory.
use Rattle.std.specs.Prelude.{map}
use Rattle.grammar.specs.Nodes.{Node, Nothing, Pair, leaf, row}
use Rattle.grammar.specs.declared.terminals.Terminal.{Terminal}
use Rattle.pas_tree.specs.Operators.{adding_node, multiplying_node, relational_node, sign_node}
use Rattle.pas_tree.specs.declared.expressions.{Index.Index as IndexTree, Index.Index', Member.Member-last-Some'}
use Rattle.pas_tree.specs.declared.expressions.{NextFactor.NextFactor, NextTerm.NextTerm, NextTerm.NextTerm'}
use Rattle.pas_tree.specs.declared.expressions.{RangeEnd.RangeEnd', Relation.Relation', Simple.more_of-NextTerm}
use Rattle.pas_tree.specs.declared.expressions.{SomeMembers.more_of-NextMember, Term.more_of-NextFactor}
use Rattle.pas_tree.specs.declared.expressions.Access.{Access, Row_of-Selector, end_of-Selector, more_of-Selector}
use Rattle.pas_tree.specs.declared.expressions.Arguments.{Arguments, Arguments', Row_of-NextExpression}
use Rattle.pas_tree.specs.declared.expressions.Arguments.{end_of-NextExpression, more_of-NextExpression}
use Rattle.pas_tree.specs.declared.expressions.Expression.{Expression, Expression', Expression-relation-None'}
use Rattle.pas_tree.specs.declared.expressions.Expression.{Expression-relation-Some', Held-Expression-relation}
use Rattle.pas_tree.specs.declared.expressions.Factor.{Access', Call', Factor, Nil, Not', Number, Paren', Set', Text}
use Rattle.pas_tree.specs.declared.expressions.Member.{Held-Member-last, Member, Member', Member-last-None'}
use Rattle.pas_tree.specs.declared.expressions.Members.{Empty, Members, Some}
use Rattle.pas_tree.specs.declared.expressions.NextExpression.{NextExpression, NextExpression'}
use Rattle.pas_tree.specs.declared.expressions.NextMember.{NextMember, NextMember'}
use Rattle.pas_tree.specs.declared.expressions.Selector.{Dereference, Field, Index, Selector}
use Rattle.pas_tree.specs.declared.expressions.Simple.{Row_of-NextTerm, Simple, Simple', end_of-NextTerm}
use Rattle.pas_tree.specs.declared.expressions.SomeMembers.{Row_of-NextMember, SomeMembers', end_of-NextMember}
use Rattle.pas_tree.specs.declared.expressions.Term.{Row_of-NextFactor, Term, Term', end_of-NextFactor}

abbrev mutual
  pub expression_node : Expression → Node
  expression_node (Expression' left relation) = Pair (simple_node left) (relation_node relation)

  pub relation_node : Held-Expression-relation → Node
  relation_node Expression-relation-None' = Nothing
  relation_node (Expression-relation-Some' (Relation' operator right)) =
      Pair (relational_node operator) (simple_node right)

  pub simple_node : Simple → Node
  simple_node (Simple' sign first _ others) = Pair (sign_node sign) (Pair (term_node first) (terms_node others))

  pub terms_node : {m : _} → Row_of-NextTerm m → Node
  terms_node end_of-NextTerm = Nothing
  terms_node (more_of-NextTerm (NextTerm' operator term) rest) =
      Pair (Pair (adding_node operator) (term_node term)) (terms_node rest)

  pub term_node : Term → Node
  term_node (Term' first _ others) = Pair (factor_node first) (factors_node others)

  pub factors_node : {m : _} → Row_of-NextFactor m → Node
  factors_node end_of-NextFactor = Nothing
  factors_node (more_of-NextFactor operator factor rest) =
      Pair (Pair (multiplying_node operator) (factor_node factor)) (factors_node rest)

  pub factor_node : Factor → Node
  factor_node (Number n) = leaf Terminal.Number n
  factor_node (Text n) = leaf Terminal.Text n
  factor_node (Nil n) = leaf Terminal.WNil n
  factor_node (Access' name _ selectors) = Pair (leaf Terminal.Name name) (selectors_node selectors)
  factor_node (Call' name _ arguments) = Pair (leaf Terminal.Name name) (arguments_node arguments)
  factor_node (Paren' open' _ e close) = Pair (leaf Terminal.LeftParen open')
      (Pair (expression_node e) (leaf Terminal.RightParen close))
  factor_node (Set' _ members) = members_node members
  factor_node (Not' n _ f) = Pair (leaf Terminal.WNot n) (factor_node f)

  pub selectors_node : {m : _} → Row_of-Selector m → Node
  selectors_node end_of-Selector = Nothing
  selectors_node (more_of-Selector s rest) = Pair (selector_node s) (selectors_node rest)

  pub selector_node : Selector → Node
  selector_node (Index i) = index_node i
  selector_node (Field dot name) = Pair (leaf Terminal.Dot dot) (leaf Terminal.Name name)
  selector_node (Dereference n) = leaf Terminal.Caret n

  pub index_node : IndexTree → Node
  index_node (Index' open' first _ others close) =
      Pair (leaf Terminal.LeftBracket open') (Pair (expression_node first)
      (Pair (expressions_node others) (leaf Terminal.RightBracket close)))

  pub arguments_node : Arguments → Node
  arguments_node (Arguments' open' first _ others close) =
      Pair (leaf Terminal.LeftParen open') (Pair (expression_node first)
      (Pair (expressions_node others) (leaf Terminal.RightParen close)))

  pub expressions_node : {m : _} → Row_of-NextExpression m → Node
  expressions_node end_of-NextExpression = Nothing
  expressions_node (more_of-NextExpression (NextExpression' comma e) rest) =
      Pair (Pair (leaf Terminal.Comma comma) (expression_node e)) (expressions_node rest)

  pub members_node : Members → Node
  members_node (Empty open' close) = Pair (leaf Terminal.LeftBracket open') (leaf Terminal.RightBracket close)
  members_node (Some (SomeMembers' open' first _ others close)) =
      Pair (leaf Terminal.LeftBracket open') (Pair (member_node first)
      (Pair (more_members_node others) (leaf Terminal.RightBracket close)))

  pub more_members_node : {m : _} → Row_of-NextMember m → Node
  more_members_node end_of-NextMember = Nothing
  more_members_node (more_of-NextMember (NextMember' comma member) rest) =
      Pair (Pair (leaf Terminal.Comma comma) (member_node member)) (more_members_node rest)

  pub member_node : Member → Node
  member_node (Member' first last) = Pair (expression_node first) (range_end_node last)

  pub range_end_node : Held-Member-last → Node
  range_end_node Member-last-None' = Nothing
  range_end_node (Member-last-Some' (RangeEnd' range last)) = Pair (leaf Terminal.Range range) (expression_node last)

-- ---- what is repeated

abbrev pub next_factor_node : NextFactor → Node
next_factor_node n = Pair (multiplying_node n.operator) (factor_node n.factor)

abbrev pub next_term_node : NextTerm → Node
next_term_node (NextTerm' operator term) = Pair (adding_node operator) (term_node term)

abbrev pub next_expression_node : NextExpression → Node
next_expression_node (NextExpression' comma e) = Pair (leaf Terminal.Comma comma) (expression_node e)

abbrev pub next_member_node : NextMember → Node
next_member_node (NextMember' comma member) = Pair (leaf Terminal.Comma comma) (member_node member)

abbrev pub access_node : Access → Node
access_node a = Pair (leaf Terminal.Name a.name) (row (map selector_node a.selectors.items))
