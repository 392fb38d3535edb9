-- Expressions (6.7): an equation for each construct.
use Rattle.std.specs.Prelude.{◌+◌, ℕ, Bool, None, false, true}
use Rattle.pas_tree.specs.{ExpressionPlaces.first_of_expression, declared.constants.Constant.Constant}
use Rattle.pas_tree.specs.ExpressionTrees.{AccessTree, ArgumentsTree, ExpressionTree, ExpressionTrees, FactorTree}
use Rattle.pas_tree.specs.ExpressionTrees.{FactorTrees, IndexTree, MemberTree, MemberTrees, MembersTree, RangeTree}
use Rattle.pas_tree.specs.ExpressionTrees.{RelationTree, SelectorTree, SelectorTrees, SimpleTree, TermTree, TermTrees}
use Rattle.pas_tree.specs.ExpressionTrees as tree
use Rattle.pas_tree.specs.OperatorPlaces.{adding_token, multiplying_token, relational_token}
use Rattle.pas_tree.specs.declared.expressions.{NextFactor.NextFactor, NextMember.NextMember, NextMember.out-NextMember}
use Rattle.pas_tree.specs.declared.expressions.{NextTerm.NextTerm, NextTerm.out-NextTerm, Selector.Selector}
use Rattle.pas_tree.specs.declared.expressions.NextExpression.{NextExpression, out-NextExpression}
use Rattle.pas_tree.specs.declared.operators.{AddingOperator.AddingOperator, MultiplyingOperator.MultiplyingOperator}
use Rattle.check_steps.specs.{Names.use_again, Steps.◌>>=◌, Steps.Step, Steps.give, Steps.look}
use Rattle.expression_checker.specs.{Actuals.actual_by, Callees.applied, Callees.called_function, NamesAlone.is_name}
use Rattle.expression_checker.specs.{NamesAlone.name_alone, Operations.relational_operator, Operations.signed}
use Rattle.expression_checker.specs.Members.{member_range, nothing_gathered, one_member, set_constructor}
use Rattle.expression_checker.specs.Names.{accessed_as, bound_at, meaning_of, variable}
use Rattle.expression_checker.specs.Operations.{adding_operator, multiplying_operator, negated, operated}
use Rattle.expression_checker.specs.Selectors.{dereferenced, indexed, selected_field}
use Rattle.expression_checker.specs.Typed.{bracketed, constant_at, literal, nil_at, unknown_at}
use Rattle.expression_checker.specs.declared.{actuals.Passing.Passing, callees.Called.Called, members.Gathered.Gathered}
use Rattle.expression_checker.specs.declared.{members.MemberStart.MemberStart, names.Meaning.Meaning, typed.Typed.Typed}

-- ---- names as factors

-- a function without actuals
unfoldable pub designator : ℕ → ℕ → Step Typed
designator frame name = do
  c ← called_function frame name 0
  applied name c.callee (unknown_at name) 0

abbrev pub named_as : ℕ → ℕ → Meaning → Step Typed
named_as frame name (Meaning.Constant v) = constant_at name v
named_as frame name (Meaning.Bound r of') = bound_at name r of'
named_as frame name Meaning.Other = designator frame name
named_as frame name m = accessed_as name m

-- a name alone: a constant, a variable, or a function without actuals
unfoldable pub name_factor : ℕ → ℕ → Step Typed
name_factor frame name = do
  found ← use_again frame name
  m ← look (λ k. meaning_of k frame found)
  named_as frame name m

-- the name of an access that is a factor, before its selectors, if it has some
abbrev pub root_name : ℕ → Bool → ℕ → Step Typed
root_name frame true name = name_factor frame name
root_name frame false name = variable frame name

-- ---- function designators

abbrev pub count_more : ExpressionTrees → ℕ
count_more tree.end_of_expressions = 0
count_more (tree.more_expressions comma e rest) = count_more rest + 1

abbrev pub count_of : ArgumentsTree → ℕ
count_of (tree.argument_list left first others right) = count_more others + 1

abbrev pub passing_to : Called → ℕ → Passing
passing_to c name = record { last = name; formals = c.formals; value = unknown_at name }

-- ---- operators

abbrev pub added : AddingOperator → Typed → Step Typed → Step Typed
added operator t m = do
  u ← m
  operated (adding_operator operator) (adding_token operator) t u

abbrev pub multiplied : MultiplyingOperator → Typed → Step Typed → Step Typed
multiplied operator f m = do
  g ← m
  operated (multiplying_operator operator) (multiplying_token operator) f g

-- a further index, of the component
abbrev pub indexed_by : Typed → ℕ → ℕ → Step Typed → Step Typed
indexed_by p at first m = do
  i ← m
  indexed p at first i

-- ---- the constructs

abbrev mutual
  pub expression : ℕ → ExpressionTree → Step Typed
  expression frame (tree.an_expression left relation) = do
    l ← simple frame left
    related frame l relation

  pub related : ℕ → Typed → RelationTree → Step Typed
  related frame l tree.without_relation = give l
  related frame l (tree.a_relation operator right) = do
    r ← simple frame right
    operated (relational_operator operator) (relational_token operator) l r

  pub simple : ℕ → SimpleTree → Step Typed
  simple frame (tree.a_simple sign first others) = do
    t ← term frame first
    one ← signed sign t
    terms frame one others

  pub terms : ℕ → Typed → TermTrees → Step Typed
  terms frame t tree.end_of_terms = give t
  terms frame t (tree.more_terms operator x rest) = do
    u ← added operator t (term frame x)
    terms frame u rest

  pub term : ℕ → TermTree → Step Typed
  term frame (tree.a_term first others) = do
    f ← factor frame first
    factors frame f others

  pub factors : ℕ → Typed → FactorTrees → Step Typed
  factors frame f tree.end_of_factors = give f
  factors frame f (tree.more_factors operator x rest) = do
    g ← multiplied operator f (factor frame x)
    factors frame g rest

  pub factor : ℕ → FactorTree → Step Typed
  factor frame (tree.a_number token) = literal token (Constant.Number None token)
  factor frame (tree.a_text token) = literal token (Constant.Text token)
  factor frame (tree.a_nil token) = nil_at token
  factor frame (tree.an_access name selectors) = do
    one ← root_name frame (is_name selectors) name
    selected frame one selectors
  factor frame (tree.a_call name a) = call frame name (count_of a) a
  factor frame (tree.a_paren left e right) = do
    v ← expression frame e
    give (bracketed v)
  factor frame (tree.a_set m) = constructor frame m
  factor frame (tree.a_not word f) = do
    v ← factor frame f
    negated word v

  -- a function designator with actuals
  pub call : ℕ → ℕ → ℕ → ArgumentsTree → Step Typed
  call frame name count (tree.argument_list left first others right) = do
    c ← called_function frame name count
    one ← actual_by frame (passing_to c name) left (name_alone first) (first_of_expression first)
        (expression frame first)
    all ← more_arguments frame one others
    applied name c.callee all.value left

  pub more_arguments : ℕ → Passing → ExpressionTrees → Step Passing
  more_arguments frame p tree.end_of_expressions = give p
  more_arguments frame p (tree.more_expressions comma e rest) = do
    next ← actual_by frame p comma (name_alone e) (first_of_expression e) (expression frame e)
    more_arguments frame next rest

  pub selected : ℕ → Typed → SelectorTrees → Step Typed
  selected frame p tree.end_of_selectors = give p
  selected frame p (tree.more_selectors s rest) = do
    next ← selector frame p s
    selected frame next rest

  pub selector : ℕ → Typed → SelectorTree → Step Typed
  selector frame p (tree.an_index i) = index_at frame p i
  selector frame p (tree.a_field dot name) = selected_field p dot name
  selector frame p (tree.a_caret caret) = dereferenced p caret

  pub index_at : ℕ → Typed → IndexTree → Step Typed
  index_at frame p (tree.index_list left first others right) = do
    next ← indexed_by p left (first_of_expression first) (expression frame first)
    more_indexes frame next others

  pub more_indexes : ℕ → Typed → ExpressionTrees → Step Typed
  more_indexes frame p tree.end_of_expressions = give p
  more_indexes frame p (tree.more_expressions comma e rest) = do
    next ← indexed_by p comma (first_of_expression e) (expression frame e)
    more_indexes frame next rest

  pub constructor : ℕ → MembersTree → Step Typed
  constructor frame (tree.empty_members left right) = set_constructor (nothing_gathered right) 0 right
  constructor frame (tree.some_members left first others right) = do
    one ← member frame (nothing_gathered right) left first
    all ← more_members frame one others
    set_constructor all left right

  pub more_members : ℕ → Gathered → MemberTrees → Step Gathered
  more_members frame g tree.end_of_members = give g
  more_members frame g (tree.more_members comma m rest) = do
    next ← member frame g comma m
    more_members frame next rest

  pub member : ℕ → Gathered → ℕ → MemberTree → Step Gathered
  member frame g slot (tree.a_member first last) = do
    v ← expression frame first
    range frame g (record { slot = slot; first = first_of_expression first; value = v }) last

  pub range : ℕ → Gathered → MemberStart → RangeTree → Step Gathered
  range frame g b tree.without_range = one_member g b
  range frame g b (tree.a_range dots last) = do
    v ← expression frame last
    member_range g b v

-- ---- one more of what the code holds

abbrev pub next_term : ℕ → Typed → NextTerm → Step Typed
next_term frame t n = added (out-NextTerm n).operator t (term frame (tree.term_tree (out-NextTerm n).term))

abbrev pub next_factor : ℕ → Typed → NextFactor → Step Typed
next_factor frame f n = multiplied n.operator f (factor frame (tree.factor_tree n.factor))

abbrev pub next_index : ℕ → Typed → NextExpression → Step Typed
next_index frame p n =
    let e = tree.expression_tree (out-NextExpression n).expression in
    indexed_by p (out-NextExpression n).comma (first_of_expression e) (expression frame e)

abbrev pub next_selector : ℕ → Typed → Selector → Step Typed
next_selector frame p s = selector frame p (tree.selector_tree s)

abbrev pub next_member : ℕ → Gathered → NextMember → Step Gathered
next_member frame g n = member frame g (out-NextMember n).comma (tree.member_tree (out-NextMember n).member)

-- one actual of a list, at a slot
abbrev pub actual : ℕ → Passing → ℕ → ExpressionTree → Step Passing
actual frame p slot e = actual_by frame p slot (name_alone e) (first_of_expression e) (expression frame e)

abbrev pub next_argument : ℕ → Passing → NextExpression → Step Passing
next_argument frame p n =
    actual frame p (out-NextExpression n).comma (tree.expression_tree (out-NextExpression n).expression)

-- an access of a variable, a parameter or a field, and a part of it
abbrev pub access : ℕ → AccessTree → Step Typed
access frame a = do
  one ← variable frame a.name
  selected frame one a.selectors
