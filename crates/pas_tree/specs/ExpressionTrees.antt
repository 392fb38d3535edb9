-- Expressions without memory: one constructor a rule.
use Rattle.std.specs.Prelude.{◌∷◌, [], ℕ, List, None, Option, Some}
use Rattle.pas_tree.specs.declared.expressions.{Index.Index as IndexOf, Index.Index', Member.Member-last-Some'}
use Rattle.pas_tree.specs.declared.expressions.{NextFactor.NextFactor, Simple.more_of-NextTerm}
use Rattle.pas_tree.specs.declared.expressions.{SomeMembers.more_of-NextMember, Term.more_of-NextFactor}
use Rattle.pas_tree.specs.declared.expressions.Access.{Access, Row_of-Selector, end_of-Selector, more_of-Selector}
use Rattle.pas_tree.specs.declared.expressions.Arguments.{Arguments, Arguments', Row_of-NextExpression}
use Rattle.pas_tree.specs.declared.expressions.Arguments.{end_of-NextExpression, more_of-NextExpression}
use Rattle.pas_tree.specs.declared.expressions.Expression.{Expression, Expression', Expression-relation-None'}
use Rattle.pas_tree.specs.declared.expressions.Expression.{Expression-relation-Some', Held-Expression-relation}
use Rattle.pas_tree.specs.declared.expressions.Factor.{Access', Call', Factor, Nil, Not', Number, Paren', Set', Text}
use Rattle.pas_tree.specs.declared.expressions.Member.{Held-Member-last, Member, Member', Member-last-None'}
use Rattle.pas_tree.specs.declared.expressions.Members.{Empty, Members, Some as SomeOf}
use Rattle.pas_tree.specs.declared.expressions.NextExpression.{NextExpression, NextExpression', out-NextExpression}
use Rattle.pas_tree.specs.declared.expressions.NextMember.{NextMember, NextMember', out-NextMember}
use Rattle.pas_tree.specs.declared.expressions.NextTerm.{NextTerm, NextTerm', out-NextTerm}
use Rattle.pas_tree.specs.declared.expressions.RangeEnd.{RangeEnd, RangeEnd', out-RangeEnd}
use Rattle.pas_tree.specs.declared.expressions.Relation.{Relation, Relation', out-Relation}
use Rattle.pas_tree.specs.declared.expressions.Selector.{Dereference, Field, Index, Selector}
use Rattle.pas_tree.specs.declared.expressions.Simple.{Row_of-NextTerm, Simple, Simple', end_of-NextTerm}
use Rattle.pas_tree.specs.declared.expressions.SomeMembers.{Row_of-NextMember, SomeMembers', end_of-NextMember}
use Rattle.pas_tree.specs.declared.expressions.Term.{Row_of-NextFactor, Term, Term', end_of-NextFactor}
use Rattle.pas_tree.specs.declared.operators.{AddingOperator.AddingOperator, MultiplyingOperator.MultiplyingOperator}
use Rattle.pas_tree.specs.declared.operators.{RelationalOperator.RelationalOperator, Sign.Sign}

mutual
  pub data ExpressionTree : Type 0 where
    an_expression : (left : SimpleTree) (relation : RelationTree) → ExpressionTree

  pub data RelationTree : Type 0 where
    without_relation : RelationTree
    a_relation : (operator : RelationalOperator) (right : SimpleTree) → RelationTree

  pub data SimpleTree : Type 0 where
    a_simple : (sign : Option Sign) (first : TermTree) (others : TermTrees) → SimpleTree

  pub data TermTrees : Type 0 where
    end_of_terms : TermTrees
    more_terms : (operator : AddingOperator) (term : TermTree) (rest : TermTrees) → TermTrees

  pub data TermTree : Type 0 where
    a_term : (first : FactorTree) (others : FactorTrees) → TermTree

  pub data FactorTrees : Type 0 where
    end_of_factors : FactorTrees
    more_factors : (operator : MultiplyingOperator) (factor : FactorTree) (rest : FactorTrees) → FactorTrees

  pub data FactorTree : Type 0 where
    a_number : (token : ℕ) → FactorTree
    a_text : (token : ℕ) → FactorTree
    a_nil : (token : ℕ) → FactorTree
    an_access : (name : ℕ) (selectors : SelectorTrees) → FactorTree
    a_call : (name : ℕ) (arguments : ArgumentsTree) → FactorTree
    a_paren : (left : ℕ) (expression : ExpressionTree) (right : ℕ) → FactorTree
    a_set : (members : MembersTree) → FactorTree
    a_not : (word : ℕ) (factor : FactorTree) → FactorTree

  pub data SelectorTrees : Type 0 where
    end_of_selectors : SelectorTrees
    more_selectors : (selector : SelectorTree) (rest : SelectorTrees) → SelectorTrees

  pub data SelectorTree : Type 0 where
    an_index : (index : IndexTree) → SelectorTree
    a_field : (dot name : ℕ) → SelectorTree
    a_caret : (token : ℕ) → SelectorTree

  pub data IndexTree : Type 0 where
    index_list : (left : ℕ) (first : ExpressionTree) (others : ExpressionTrees) (right : ℕ) → IndexTree

  pub data ArgumentsTree : Type 0 where
    argument_list : (left : ℕ) (first : ExpressionTree) (others : ExpressionTrees) (right : ℕ) → ArgumentsTree

  pub data ExpressionTrees : Type 0 where
    end_of_expressions : ExpressionTrees
    more_expressions : (comma : ℕ) (expression : ExpressionTree) (rest : ExpressionTrees) → ExpressionTrees

  pub data MembersTree : Type 0 where
    empty_members : (left right : ℕ) → MembersTree
    some_members : (left : ℕ) (first : MemberTree) (others : MemberTrees) (right : ℕ) → MembersTree

  pub data MemberTrees : Type 0 where
    end_of_members : MemberTrees
    more_members : (comma : ℕ) (member : MemberTree) (rest : MemberTrees) → MemberTrees

  pub data MemberTree : Type 0 where
    a_member : (first : ExpressionTree) (last : RangeTree) → MemberTree

  pub data RangeTree : Type 0 where
    without_range : RangeTree
    a_range : (dots : ℕ) (last : ExpressionTree) → RangeTree

-- an access of a variable
pub record AccessTree : Type 0 where
  pub name : ℕ
  pub selectors : SelectorTrees

-- ---- the views

abbrev mutual
  pub expression_tree : Expression → ExpressionTree
  expression_tree (Expression' left relation) = an_expression (simple_tree left) (relation_tree relation)

  pub relation_tree : Held-Expression-relation → RelationTree
  relation_tree Expression-relation-None' = without_relation
  relation_tree (Expression-relation-Some' (Relation' operator right)) = a_relation operator (simple_tree right)

  pub simple_tree : Simple → SimpleTree
  simple_tree (Simple' sign first _ others) = a_simple sign (term_tree first) (term_row others)

  pub term_row : {m : _} → Row_of-NextTerm m → TermTrees
  term_row end_of-NextTerm = end_of_terms
  term_row (more_of-NextTerm (NextTerm' operator term) rest) = more_terms operator (term_tree term) (term_row rest)

  pub term_tree : Term → TermTree
  term_tree (Term' first _ others) = a_term (factor_tree first) (factor_row others)

  pub factor_row : {m : _} → Row_of-NextFactor m → FactorTrees
  factor_row end_of-NextFactor = end_of_factors
  factor_row (more_of-NextFactor operator factor rest) = more_factors operator (factor_tree factor) (factor_row rest)

  pub factor_tree : Factor → FactorTree
  factor_tree (Number n) = a_number n
  factor_tree (Text n) = a_text n
  factor_tree (Nil n) = a_nil n
  factor_tree (Access' name _ selectors) = an_access name (selector_row selectors)
  factor_tree (Call' name _ a) = a_call name (arguments_tree a)
  factor_tree (Paren' open' _ e close) = a_paren open' (expression_tree e) close
  factor_tree (Set' _ members) = a_set (members_tree members)
  factor_tree (Not' word _ f) = a_not word (factor_tree f)

  pub selector_row : {m : _} → Row_of-Selector m → SelectorTrees
  selector_row end_of-Selector = end_of_selectors
  selector_row (more_of-Selector s rest) = more_selectors (selector_tree s) (selector_row rest)

  pub selector_tree : Selector → SelectorTree
  selector_tree (Index i) = an_index (index_tree i)
  selector_tree (Field dot name) = a_field dot name
  selector_tree (Dereference n) = a_caret n

  pub index_tree : IndexOf → IndexTree
  index_tree (Index' open' first _ others close) =
      index_list open' (expression_tree first) (expression_row others) close

  pub arguments_tree : Arguments → ArgumentsTree
  arguments_tree (Arguments' open' first _ others close) =
      argument_list open' (expression_tree first) (expression_row others) close

  pub expression_row : {m : _} → Row_of-NextExpression m → ExpressionTrees
  expression_row end_of-NextExpression = end_of_expressions
  expression_row (more_of-NextExpression (NextExpression' comma e) rest) =
      more_expressions comma (expression_tree e) (expression_row rest)

  pub members_tree : Members → MembersTree
  members_tree (Empty open' close) = empty_members open' close
  members_tree (SomeOf (SomeMembers' open' first _ others close)) =
      some_members open' (member_tree first) (member_row others) close

  pub member_row : {m : _} → Row_of-NextMember m → MemberTrees
  member_row end_of-NextMember = end_of_members
  member_row (more_of-NextMember (NextMember' comma member) rest) =
      more_members comma (member_tree member) (member_row rest)

  pub member_tree : Member → MemberTree
  member_tree (Member' first last) = a_member (expression_tree first) (range_tree last)

  pub range_tree : Held-Member-last → RangeTree
  range_tree Member-last-None' = without_range
  range_tree (Member-last-Some' (RangeEnd' range last)) = a_range range (expression_tree last)

-- ---- the same of what the code holds

abbrev pub term_trees : List NextTerm → TermTrees
term_trees [] = end_of_terms
term_trees (n ∷ rest) = more_terms (out-NextTerm n).operator (term_tree (out-NextTerm n).term) (term_trees rest)

abbrev pub factor_trees : List NextFactor → FactorTrees
factor_trees [] = end_of_factors
factor_trees (n ∷ rest) = more_factors n.operator (factor_tree n.factor) (factor_trees rest)

abbrev pub selector_trees : List Selector → SelectorTrees
selector_trees [] = end_of_selectors
selector_trees (s ∷ rest) = more_selectors (selector_tree s) (selector_trees rest)

abbrev pub access_tree : Access → AccessTree
access_tree a = record { name = a.name; selectors = selector_trees a.selectors.items }

abbrev pub expression_trees : List NextExpression → ExpressionTrees
expression_trees [] = end_of_expressions
expression_trees (n ∷ rest) =
    more_expressions (out-NextExpression n).comma (expression_tree (out-NextExpression n).expression)
    (expression_trees rest)

abbrev pub member_trees : List NextMember → MemberTrees
member_trees [] = end_of_members
member_trees (n ∷ rest) =
    more_members (out-NextMember n).comma (member_tree (out-NextMember n).member) (member_trees rest)

abbrev pub relation_in : Option Relation → RelationTree
relation_in None = without_relation
relation_in (Some r) = a_relation (out-Relation r).operator (simple_tree (out-Relation r).right)

abbrev pub range_in : Option RangeEnd → RangeTree
range_in None = without_range
range_in (Some r) = a_range (out-RangeEnd r).range (expression_tree (out-RangeEnd r).last)
