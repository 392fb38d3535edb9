-- Accesses of variables (6.5), and the names that expressions use (6.7).
use Rattle.std.specs.Prelude.{ℕ, None, Option, Some}
use Rattle.pas_tree.specs.ExpressionTrees.{AccessTree, ArgumentsTree, ExpressionTree, ExpressionTrees, FactorTree}
use Rattle.pas_tree.specs.ExpressionTrees.{FactorTrees, IndexTree, MemberTree, MemberTrees, MembersTree, RangeTree}
use Rattle.pas_tree.specs.ExpressionTrees.{RelationTree, SelectorTree, SelectorTrees, SimpleTree, TermTree, TermTrees}
use Rattle.pas_tree.specs.ExpressionTrees as tree
use Rattle.pas_tree.specs.declared.expressions.{NextFactor.NextFactor, NextMember.NextMember, NextMember.out-NextMember}
use Rattle.pas_tree.specs.declared.expressions.{NextTerm.NextTerm, NextTerm.out-NextTerm, Selector.Selector}
use Rattle.pas_tree.specs.declared.expressions.NextExpression.{NextExpression, out-NextExpression}
use Rattle.core_program.specs.declared.rows.{NameRow.NameRow, Row.Row, TypeRow.TypeRow}
use Rattle.check_steps.specs.{Names.use_at, Regions.defined_in, Steps.◌>>=◌, Steps.Step, Steps.give, Steps.look}
use Rattle.check_steps.specs.Known.{Known, name_at, row_at, type_at}
use Rattle.check_steps.specs.declared.regions.{Definition.Definition, Found.Found}

-- ---- names

-- rule 1, at a name that is looked up for no more than that
unfoldable pub name_use : ℕ → ℕ → Step (Unit {0})
name_use frame token = do
  _ ← use_at frame token token
  give tt

-- the type of a variable, a parameter or a field by its row, and else this number
abbrev pub variable_type : Row → ℕ → ℕ
variable_type (Row.Name (NameRow.Variable mode of' place level)) otherwise = of'
variable_type (Row.Name (NameRow.Bound of' place level)) otherwise = of'
variable_type (Row.Name (NameRow.Field of' offset holder)) otherwise = of'
variable_type (Row.Name (NameRow.Tag of' offset holder variants)) otherwise = of'
variable_type r otherwise = otherwise

abbrev pub type_found : Known → Option Found → ℕ → ℕ
type_found k None otherwise = otherwise
type_found k (Some f) otherwise = variable_type (row_at k f.definition.token) otherwise

-- The type of the variable that a name stands for. If it stands for none, its own token is given: no type stands there.
unfoldable pub named_variable : ℕ → ℕ → Step ℕ
named_variable frame name = do
  found ← use_at frame name name
  look (λ k. type_found k found name)

-- ---- selectors

-- What is selected in a type that has no such part is unknown: the number `unknown` is given, at which no type stands.

abbrev pub component_type : Option TypeRow → ℕ → ℕ
component_type (Some (TypeRow.Array packed index component cells)) unknown = component
component_type (Some (TypeRow.Conformant packed index component place)) unknown = component
component_type t unknown = unknown

abbrev pub domain_type : Option TypeRow → ℕ → ℕ
domain_type (Some (TypeRow.Pointer domain)) unknown = domain
domain_type t unknown = unknown

abbrev pub type_defined : Known → Option Definition → ℕ → ℕ
type_defined k None unknown = unknown
type_defined k (Some d) unknown = variable_type (row_at k d.token) unknown

-- the type of the field that the record's own region defines
abbrev pub field_type : Known → Option TypeRow → ℕ → ℕ → ℕ
field_type k (Some (TypeRow.Record packed region cells variants)) name unknown =
    type_defined k (defined_in k.regions region name) unknown
field_type k t name unknown = unknown

-- an index selects a component, whatever its own value is
unfoldable pub indexed_type : ℕ → ℕ → Step ℕ
indexed_type unknown t = look (λ k. component_type (type_at k t) unknown)

-- an index, by what it uses itself, and then the component
abbrev pub index_by : ℕ → ℕ → Step (Unit {0}) → Step ℕ
index_by unknown t uses = do
  _ ← uses
  indexed_type unknown t

-- The name of a field is no use of a name: it is looked up in the record alone.
unfoldable pub field : ℕ → ℕ → ℕ → Step ℕ
field unknown t token = look (λ k. field_type k (type_at k t) (name_at k token) unknown)

unfoldable pub domain : ℕ → ℕ → Step ℕ
domain unknown t = look (λ k. domain_type (type_at k t) unknown)

-- ---- expressions

abbrev mutual
  -- the names that an expression uses, in the order of their tokens
  pub expression_uses : ℕ → ExpressionTree → Step (Unit {0})
  expression_uses frame (tree.an_expression left relation) = do
    _ ← simple_uses frame left
    relation_uses frame relation

  pub relation_uses : ℕ → RelationTree → Step (Unit {0})
  relation_uses frame tree.without_relation = give tt
  relation_uses frame (tree.a_relation operator right) = simple_uses frame right

  pub simple_uses : ℕ → SimpleTree → Step (Unit {0})
  simple_uses frame (tree.a_simple sign first others) = do
    _ ← term_uses frame first
    more_terms frame others

  pub more_terms : ℕ → TermTrees → Step (Unit {0})
  more_terms frame tree.end_of_terms = give tt
  more_terms frame (tree.more_terms operator t rest) = do
    _ ← term_uses frame t
    more_terms frame rest

  pub term_uses : ℕ → TermTree → Step (Unit {0})
  term_uses frame (tree.a_term first others) = do
    _ ← factor_uses frame first
    more_factors frame others

  pub more_factors : ℕ → FactorTrees → Step (Unit {0})
  more_factors frame tree.end_of_factors = give tt
  more_factors frame (tree.more_factors operator f rest) = do
    _ ← factor_uses frame f
    more_factors frame rest

  pub factor_uses : ℕ → FactorTree → Step (Unit {0})
  factor_uses frame (tree.a_number n) = give tt
  factor_uses frame (tree.a_text n) = give tt
  factor_uses frame (tree.a_nil n) = give tt
  factor_uses frame (tree.an_access name selectors) = do
    t ← named_variable frame name
    _ ← selected frame name t selectors
    give tt
  factor_uses frame (tree.a_call name a) = do
    _ ← name_use frame name
    arguments_uses frame a
  factor_uses frame (tree.a_paren left e right) = expression_uses frame e
  factor_uses frame (tree.a_set members) = members_uses frame members
  factor_uses frame (tree.a_not word f) = factor_uses frame f

  pub selected : ℕ → ℕ → ℕ → SelectorTrees → Step ℕ
  selected frame unknown t tree.end_of_selectors = give t
  selected frame unknown t (tree.more_selectors s rest) = do
    part ← selector frame unknown t s
    selected frame unknown part rest

  -- the type of what is selected in a type
  pub selector : ℕ → ℕ → ℕ → SelectorTree → Step ℕ
  selector frame unknown t (tree.an_index i) = indices frame unknown t i
  selector frame unknown t (tree.a_field dot name) = field unknown t name
  selector frame unknown t (tree.a_caret caret) = domain unknown t

  -- each comma selects once more
  pub indices : ℕ → ℕ → ℕ → IndexTree → Step ℕ
  indices frame unknown t (tree.index_list left first others right) = do
    _ ← expression_uses frame first
    part ← indexed_type unknown t
    more_indices frame unknown part others

  pub more_indices : ℕ → ℕ → ℕ → ExpressionTrees → Step ℕ
  more_indices frame unknown t tree.end_of_expressions = give t
  more_indices frame unknown t (tree.more_expressions comma e rest) = do
    part ← index_by unknown t (expression_uses frame e)
    more_indices frame unknown part rest

  pub arguments_uses : ℕ → ArgumentsTree → Step (Unit {0})
  arguments_uses frame (tree.argument_list left first others right) = do
    _ ← expression_uses frame first
    more_arguments frame others

  pub more_arguments : ℕ → ExpressionTrees → Step (Unit {0})
  more_arguments frame tree.end_of_expressions = give tt
  more_arguments frame (tree.more_expressions comma e rest) = do
    _ ← expression_uses frame e
    more_arguments frame rest

  pub members_uses : ℕ → MembersTree → Step (Unit {0})
  members_uses frame (tree.empty_members left right) = give tt
  members_uses frame (tree.some_members left first others right) = do
    _ ← member_uses frame first
    more_members frame others

  pub more_members : ℕ → MemberTrees → Step (Unit {0})
  more_members frame tree.end_of_members = give tt
  more_members frame (tree.more_members comma m rest) = do
    _ ← member_uses frame m
    more_members frame rest

  pub member_uses : ℕ → MemberTree → Step (Unit {0})
  member_uses frame (tree.a_member first last) = do
    _ ← expression_uses frame first
    range_uses frame last

  pub range_uses : ℕ → RangeTree → Step (Unit {0})
  range_uses frame tree.without_range = give tt
  range_uses frame (tree.a_range dots last) = expression_uses frame last

-- The type of what is accessed, seen from a frame. Where it is unknown a number is given at which no type stands.
abbrev pub access_type : ℕ → AccessTree → Step ℕ
access_type frame a = do
  t ← named_variable frame a.name
  selected frame a.name t a.selectors

-- the names that an access uses, in the order of their tokens
abbrev pub access_uses : ℕ → AccessTree → Step (Unit {0})
access_uses frame a = do
  _ ← access_type frame a
  give tt

-- ---- one more of what the code holds

abbrev pub next_term : ℕ → Unit {0} → NextTerm → Step (Unit {0})
next_term frame u n = term_uses frame (tree.term_tree (out-NextTerm n).term)

abbrev pub next_factor : ℕ → Unit {0} → NextFactor → Step (Unit {0})
next_factor frame u n = factor_uses frame (tree.factor_tree n.factor)

abbrev pub next_selector : ℕ → ℕ → ℕ → Selector → Step ℕ
next_selector frame unknown t s = selector frame unknown t (tree.selector_tree s)

abbrev pub next_index : ℕ → ℕ → ℕ → NextExpression → Step ℕ
next_index frame unknown t n =
    index_by unknown t (expression_uses frame (tree.expression_tree (out-NextExpression n).expression))

abbrev pub next_argument : ℕ → Unit {0} → NextExpression → Step (Unit {0})
next_argument frame u n = expression_uses frame (tree.expression_tree (out-NextExpression n).expression)

abbrev pub next_member : ℕ → Unit {0} → NextMember → Step (Unit {0})
next_member frame u n = member_uses frame (tree.member_tree (out-NextMember n).member)
