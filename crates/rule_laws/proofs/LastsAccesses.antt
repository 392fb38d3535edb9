-- What the steps of `Rattle.decl_checker.specs.Accesses` leave as it was.
use Rattle.std.proofs.Common.{ℕ}
use Rattle.pas_tree.specs.BlockTrees.{RoutineTree}
use Rattle.pas_tree.specs.ExpressionTrees.{AccessTree, ArgumentsTree, ExpressionTree, ExpressionTrees, FactorTree, FactorTrees, IndexTree, MemberTree}
use Rattle.pas_tree.specs.ExpressionTrees.{MemberTrees, MembersTree, RangeTree, RelationTree, SelectorTree, SelectorTrees, SimpleTree, TermTree, TermTrees}
use Rattle.pas_tree.specs.ExpressionTrees as tree
use Rattle.check_steps.specs.Known.{Known, name_at, type_at}
use Rattle.decl_checker.specs.Accesses.{access_type, access_uses, arguments_uses, component_type, domain, domain_type, expression_uses, factor_uses, field}
use Rattle.decl_checker.specs.Accesses.{field_type, indexed_type, indices, member_uses, members_uses, more_arguments, more_factors, more_indices, more_members}
use Rattle.decl_checker.specs.Accesses.{more_terms, name_use, named_variable, range_uses, relation_uses, selected, selector, simple_uses, term_uses, type_found}
use Rattle.rule_laws.proofs.{Keeping.Keeps, Keeping.bind-keeps, Keeping.give-keeps, Keeping.look-keeps, Lasting.Lasting, LastsNames.use_at-lasts}

pub name_use-lasts : {G : RoutineTree → Type 0} {I : Known → Type 0} (kept : Lasting G I) (frame token : ℕ) → Keeps I (name_use frame token)
unfolding name_use
name_use-lasts kept frame token = bind-keeps (use_at-lasts kept frame token token) (λ _. give-keeps tt)

pub named_variable-lasts : {G : RoutineTree → Type 0} {I : Known → Type 0} (kept : Lasting G I) (frame name : ℕ) → Keeps I (named_variable frame name)
unfolding named_variable
named_variable-lasts kept frame name = bind-keeps (use_at-lasts kept frame name name) (λ found. look-keeps (λ k. type_found k found name))

pub indexed_type-lasts : {G : RoutineTree → Type 0} {I : Known → Type 0} (kept : Lasting G I) (unknown t : ℕ) → Keeps I (indexed_type unknown t)
unfolding indexed_type
indexed_type-lasts kept unknown t = look-keeps (λ k. component_type (type_at k t) unknown)

pub field-lasts : {G : RoutineTree → Type 0} {I : Known → Type 0} (kept : Lasting G I) (unknown t token : ℕ) → Keeps I (field unknown t token)
unfolding field
field-lasts kept unknown t token = look-keeps (λ k. field_type k (type_at k t) (name_at k token) unknown)

pub domain-lasts : {G : RoutineTree → Type 0} {I : Known → Type 0} (kept : Lasting G I) (unknown t : ℕ) → Keeps I (domain unknown t)
unfolding domain
domain-lasts kept unknown t = look-keeps (λ k. domain_type (type_at k t) unknown)

mutual
  pub expression_uses-lasts : {G : RoutineTree → Type 0} {I : Known → Type 0} (kept : Lasting G I) (frame : ℕ) (expression : ExpressionTree)
      → Keeps I (expression_uses frame expression)
  expression_uses-lasts kept frame (tree.an_expression left relation) =
      bind-keeps (simple_uses-lasts kept frame left) (λ _. relation_uses-lasts kept frame relation)

  pub relation_uses-lasts : {G : RoutineTree → Type 0} {I : Known → Type 0} (kept : Lasting G I) (frame : ℕ) (relation : RelationTree)
      → Keeps I (relation_uses frame relation)
  relation_uses-lasts kept frame tree.without_relation = give-keeps tt
  relation_uses-lasts kept frame (tree.a_relation operator right) = simple_uses-lasts kept frame right

  pub simple_uses-lasts : {G : RoutineTree → Type 0} {I : Known → Type 0} (kept : Lasting G I) (frame : ℕ) (simple : SimpleTree)
      → Keeps I (simple_uses frame simple)
  simple_uses-lasts kept frame (tree.a_simple sign first others) = bind-keeps (term_uses-lasts kept frame first) (λ _. more_terms-lasts kept frame others)

  pub more_terms-lasts : {G : RoutineTree → Type 0} {I : Known → Type 0} (kept : Lasting G I) (frame : ℕ) (next_term' : TermTrees)
      → Keeps I (more_terms frame next_term')
  more_terms-lasts kept frame tree.end_of_terms = give-keeps tt
  more_terms-lasts kept frame (tree.more_terms operator t rest) = bind-keeps (term_uses-lasts kept frame t) (λ _. more_terms-lasts kept frame rest)

  pub term_uses-lasts : {G : RoutineTree → Type 0} {I : Known → Type 0} (kept : Lasting G I) (frame : ℕ) (term : TermTree) → Keeps I (term_uses frame term)
  term_uses-lasts kept frame (tree.a_term first others) = bind-keeps (factor_uses-lasts kept frame first) (λ _. more_factors-lasts kept frame others)

  pub more_factors-lasts : {G : RoutineTree → Type 0} {I : Known → Type 0} (kept : Lasting G I) (frame : ℕ) (next_factor' : FactorTrees)
      → Keeps I (more_factors frame next_factor')
  more_factors-lasts kept frame tree.end_of_factors = give-keeps tt
  more_factors-lasts kept frame (tree.more_factors operator f rest) = bind-keeps (factor_uses-lasts kept frame f) (λ _. more_factors-lasts kept frame rest)

  pub factor_uses-lasts : {G : RoutineTree → Type 0} {I : Known → Type 0} (kept : Lasting G I) (frame : ℕ) (factor : FactorTree)
      → Keeps I (factor_uses frame factor)
  factor_uses-lasts kept frame (tree.a_number n) = give-keeps tt
  factor_uses-lasts kept frame (tree.a_text n) = give-keeps tt
  factor_uses-lasts kept frame (tree.a_nil n) = give-keeps tt
  factor_uses-lasts kept frame (tree.an_access name selectors) = bind-keeps (named_variable-lasts kept frame name)
      (λ t. bind-keeps (selected-lasts kept frame name t selectors) (λ _. give-keeps tt))
  factor_uses-lasts kept frame (tree.a_call name arguments) = bind-keeps (name_use-lasts kept frame name) (λ _. arguments_uses-lasts kept frame arguments)
  factor_uses-lasts kept frame (tree.a_paren open' e close) = expression_uses-lasts kept frame e
  factor_uses-lasts kept frame (tree.a_set members) = members_uses-lasts kept frame members
  factor_uses-lasts kept frame (tree.a_not n f) = factor_uses-lasts kept frame f

  pub selected-lasts : {G : RoutineTree → Type 0} {I : Known → Type 0} (kept : Lasting G I) (frame unknown t : ℕ) (selector' : SelectorTrees)
      → Keeps I (selected frame unknown t selector')
  selected-lasts kept frame unknown t tree.end_of_selectors = give-keeps t
  selected-lasts kept frame unknown t (tree.more_selectors s rest) =
      bind-keeps (selector-lasts kept frame unknown t s) (λ part. selected-lasts kept frame unknown part rest)

  pub selector-lasts : {G : RoutineTree → Type 0} {I : Known → Type 0} (kept : Lasting G I) (frame unknown t : ℕ) (selector' : SelectorTree)
      → Keeps I (selector frame unknown t selector')
  selector-lasts kept frame unknown t (tree.an_index i) = indices-lasts kept frame unknown t i
  selector-lasts kept frame unknown t (tree.a_field dot name) = field-lasts kept unknown t name
  selector-lasts kept frame unknown t (tree.a_caret n) = domain-lasts kept unknown t

  pub indices-lasts : {G : RoutineTree → Type 0} {I : Known → Type 0} (kept : Lasting G I) (frame unknown t : ℕ) (index : IndexTree)
      → Keeps I (indices frame unknown t index)
  indices-lasts kept frame unknown t (tree.index_list open' first others close) =
      bind-keeps (expression_uses-lasts kept frame first) (λ _. bind-keeps (indexed_type-lasts kept unknown t)
      (λ part. more_indices-lasts kept frame unknown part others))

  pub more_indices-lasts : {G : RoutineTree → Type 0} {I : Known → Type 0} (kept : Lasting G I) (frame unknown t : ℕ) (next_expression : ExpressionTrees)
      → Keeps I (more_indices frame unknown t next_expression)
  more_indices-lasts kept frame unknown t tree.end_of_expressions = give-keeps t
  more_indices-lasts kept frame unknown t (tree.more_expressions comma e rest) =
      bind-keeps (bind-keeps (expression_uses-lasts kept frame e) (λ _. indexed_type-lasts kept unknown t))
      (λ part. more_indices-lasts kept frame unknown part rest)

  pub arguments_uses-lasts : {G : RoutineTree → Type 0} {I : Known → Type 0} (kept : Lasting G I) (frame : ℕ) (arguments : ArgumentsTree)
      → Keeps I (arguments_uses frame arguments)
  arguments_uses-lasts kept frame (tree.argument_list open' first others close) =
      bind-keeps (expression_uses-lasts kept frame first) (λ _. more_arguments-lasts kept frame others)

  pub more_arguments-lasts : {G : RoutineTree → Type 0} {I : Known → Type 0} (kept : Lasting G I) (frame : ℕ) (next_expression : ExpressionTrees)
      → Keeps I (more_arguments frame next_expression)
  more_arguments-lasts kept frame tree.end_of_expressions = give-keeps tt
  more_arguments-lasts kept frame (tree.more_expressions comma e rest) =
      bind-keeps (expression_uses-lasts kept frame e) (λ _. more_arguments-lasts kept frame rest)

  pub members_uses-lasts : {G : RoutineTree → Type 0} {I : Known → Type 0} (kept : Lasting G I) (frame : ℕ) (members : MembersTree)
      → Keeps I (members_uses frame members)
  members_uses-lasts kept frame (tree.empty_members open' close) = give-keeps tt
  members_uses-lasts kept frame (tree.some_members open' first others close) =
      bind-keeps (member_uses-lasts kept frame first) (λ _. more_members-lasts kept frame others)

  pub more_members-lasts : {G : RoutineTree → Type 0} {I : Known → Type 0} (kept : Lasting G I) (frame : ℕ) (next_member' : MemberTrees)
      → Keeps I (more_members frame next_member')
  more_members-lasts kept frame tree.end_of_members = give-keeps tt
  more_members-lasts kept frame (tree.more_members comma m rest) = bind-keeps (member_uses-lasts kept frame m) (λ _. more_members-lasts kept frame rest)

  pub member_uses-lasts : {G : RoutineTree → Type 0} {I : Known → Type 0} (kept : Lasting G I) (frame : ℕ) (member : MemberTree)
      → Keeps I (member_uses frame member)
  member_uses-lasts kept frame (tree.a_member first last) = bind-keeps (expression_uses-lasts kept frame first) (λ _. range_uses-lasts kept frame last)

  pub range_uses-lasts : {G : RoutineTree → Type 0} {I : Known → Type 0} (kept : Lasting G I) (frame : ℕ) (last : RangeTree) → Keeps I (range_uses frame last)
  range_uses-lasts kept frame tree.without_range = give-keeps tt
  range_uses-lasts kept frame (tree.a_range dots last') = expression_uses-lasts kept frame last'

pub access_type-lasts : {G : RoutineTree → Type 0} {I : Known → Type 0} (kept : Lasting G I) (frame : ℕ) (a : AccessTree) → Keeps I (access_type frame a)
access_type-lasts kept frame a = bind-keeps (named_variable-lasts kept frame a.name) (λ t. selected-lasts kept frame a.name t a.selectors)

pub access_uses-lasts : {G : RoutineTree → Type 0} {I : Known → Type 0} (kept : Lasting G I) (frame : ℕ) (a : AccessTree) → Keeps I (access_uses frame a)
access_uses-lasts kept frame a = bind-keeps (access_type-lasts kept frame a) (λ _. give-keeps tt)
