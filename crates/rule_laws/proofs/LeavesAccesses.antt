-- What the steps of `Rattle.decl_checker.specs.Accesses` leave at all tokens: they put no row.
use Rattle.std.proofs.Common.{ℕ}
use Rattle.pas_tree.specs.ExpressionTrees.{AccessTree, ArgumentsTree, ExpressionTree, ExpressionTrees, FactorTree, FactorTrees, IndexTree, MemberTree}
use Rattle.pas_tree.specs.ExpressionTrees.{MemberTrees, MembersTree, RangeTree, RelationTree, SelectorTree, SelectorTrees, SimpleTree, TermTree, TermTrees}
use Rattle.pas_tree.specs.ExpressionTrees as tree
use Rattle.check_steps.specs.Known.{name_at, type_at}
use Rattle.decl_checker.specs.Accesses.{access_type, access_uses, arguments_uses, component_type, domain, domain_type, expression_uses, factor_uses, field}
use Rattle.decl_checker.specs.Accesses.{field_type, indexed_type, indices, member_uses, members_uses, more_arguments, more_factors, more_indices, more_members}
use Rattle.decl_checker.specs.Accesses.{more_terms, name_use, named_variable, range_uses, relation_uses, selected, selector, simple_uses, term_uses, type_found}
use Rattle.rule_laws.proofs.{Leaves.Leaves, Leaves.bind-leaves, Leaves.give-leaves, Leaves.look-leaves, LeavesAnywhere.use_any-leaves}

pub name_use-leaves : {Q : ℕ → Type 0} (frame : ℕ) (token : ℕ) → Leaves Q (name_use frame token)
unfolding name_use
name_use-leaves frame token = bind-leaves (use_any-leaves frame token token) (λ _. give-leaves tt)

pub named_variable-leaves : {Q : ℕ → Type 0} (frame : ℕ) (name : ℕ) → Leaves Q (named_variable frame name)
unfolding named_variable
named_variable-leaves frame name = bind-leaves (use_any-leaves frame name name) (λ found. look-leaves (λ k. type_found k found name))

pub indexed_type-leaves : {Q : ℕ → Type 0} (unknown : ℕ) (t : ℕ) → Leaves Q (indexed_type unknown t)
unfolding indexed_type
indexed_type-leaves unknown t = look-leaves (λ k. component_type (type_at k t) unknown)

pub field-leaves : {Q : ℕ → Type 0} (unknown : ℕ) (t : ℕ) (token : ℕ) → Leaves Q (field unknown t token)
unfolding field
field-leaves unknown t token = look-leaves (λ k. field_type k (type_at k t) (name_at k token) unknown)

pub domain-leaves : {Q : ℕ → Type 0} (unknown : ℕ) (t : ℕ) → Leaves Q (domain unknown t)
unfolding domain
domain-leaves unknown t = look-leaves (λ k. domain_type (type_at k t) unknown)

mutual
  pub expression_uses-leaves : {Q : ℕ → Type 0} (frame : ℕ) (expression : ExpressionTree) → Leaves Q (expression_uses frame expression)
  expression_uses-leaves frame (tree.an_expression left relation) = bind-leaves (simple_uses-leaves frame left) (λ _.
      relation_uses-leaves frame relation)

  pub relation_uses-leaves : {Q : ℕ → Type 0} (frame : ℕ) (relation : RelationTree) → Leaves Q (relation_uses frame relation)
  relation_uses-leaves frame tree.without_relation = give-leaves tt
  relation_uses-leaves frame (tree.a_relation operator right) = simple_uses-leaves frame right

  pub simple_uses-leaves : {Q : ℕ → Type 0} (frame : ℕ) (simple : SimpleTree) → Leaves Q (simple_uses frame simple)
  simple_uses-leaves frame (tree.a_simple sign first others) = bind-leaves (term_uses-leaves frame first) (λ _.
      more_terms-leaves frame others)

  pub more_terms-leaves : {Q : ℕ → Type 0} (frame : ℕ) (next_term' : TermTrees) → Leaves Q (more_terms frame next_term')
  more_terms-leaves frame tree.end_of_terms = give-leaves tt
  more_terms-leaves frame (tree.more_terms operator t rest) =
      bind-leaves (term_uses-leaves frame t) (λ _. more_terms-leaves frame rest)

  pub term_uses-leaves : {Q : ℕ → Type 0} (frame : ℕ) (term : TermTree) → Leaves Q (term_uses frame term)
  term_uses-leaves frame (tree.a_term first others) = bind-leaves (factor_uses-leaves frame first)
      (λ _. more_factors-leaves frame others)

  pub more_factors-leaves : {Q : ℕ → Type 0} (frame : ℕ) (next_factor' : FactorTrees) → Leaves Q (more_factors frame next_factor')
  more_factors-leaves frame tree.end_of_factors = give-leaves tt
  more_factors-leaves frame (tree.more_factors operator f rest) = bind-leaves (factor_uses-leaves frame f) (λ _.
      more_factors-leaves frame rest)

  pub factor_uses-leaves : {Q : ℕ → Type 0} (frame : ℕ) (factor : FactorTree) → Leaves Q (factor_uses frame factor)
  factor_uses-leaves frame (tree.a_number n) = give-leaves tt
  factor_uses-leaves frame (tree.a_text n) = give-leaves tt
  factor_uses-leaves frame (tree.a_nil n) = give-leaves tt
  factor_uses-leaves frame (tree.an_access name selectors) = bind-leaves (named_variable-leaves frame name) (λ t.
      bind-leaves (selected-leaves frame name t selectors) (λ _. give-leaves tt))
  factor_uses-leaves frame (tree.a_call name arguments) = bind-leaves (name_use-leaves frame name) (λ _.
      arguments_uses-leaves frame arguments)
  factor_uses-leaves frame (tree.a_paren open' e close) = expression_uses-leaves frame e
  factor_uses-leaves frame (tree.a_set members) = members_uses-leaves frame members
  factor_uses-leaves frame (tree.a_not n f) = factor_uses-leaves frame f

  pub selected-leaves : {Q : ℕ → Type 0} (frame : ℕ) (unknown : ℕ) (t : ℕ) (selector' : SelectorTrees) → Leaves Q (selected frame unknown t selector')
  selected-leaves frame unknown t tree.end_of_selectors = give-leaves t
  selected-leaves frame unknown t (tree.more_selectors s rest) = bind-leaves (selector-leaves frame unknown t s) (λ part.
      selected-leaves frame unknown part rest)

  pub selector-leaves : {Q : ℕ → Type 0} (frame : ℕ) (unknown : ℕ) (t : ℕ) (selector' : SelectorTree) → Leaves Q (selector frame unknown t selector')
  selector-leaves frame unknown t (tree.an_index i) = indices-leaves frame unknown t i
  selector-leaves frame unknown t (tree.a_field dot name) = field-leaves unknown t name
  selector-leaves frame unknown t (tree.a_caret n) = domain-leaves unknown t

  pub indices-leaves : {Q : ℕ → Type 0} (frame : ℕ) (unknown : ℕ) (t : ℕ) (index : IndexTree) → Leaves Q (indices frame unknown t index)
  indices-leaves frame unknown t (tree.index_list open' first others close) = bind-leaves (expression_uses-leaves frame first) (λ _.
      bind-leaves (indexed_type-leaves unknown t) (λ part. more_indices-leaves frame unknown part others))

  pub more_indices-leaves : {Q : ℕ → Type 0} (frame : ℕ) (unknown : ℕ) (t : ℕ) (next_expression : ExpressionTrees)
      → Leaves Q (more_indices frame unknown t next_expression)
  more_indices-leaves frame unknown t tree.end_of_expressions = give-leaves t
  more_indices-leaves frame unknown t (tree.more_expressions comma e rest) =
      bind-leaves (bind-leaves (expression_uses-leaves frame e) (λ _. indexed_type-leaves unknown t)) (λ part.
      more_indices-leaves frame unknown part rest)

  pub arguments_uses-leaves : {Q : ℕ → Type 0} (frame : ℕ) (arguments : ArgumentsTree) → Leaves Q (arguments_uses frame arguments)
  arguments_uses-leaves frame (tree.argument_list open' first others close) = bind-leaves (expression_uses-leaves frame first) (λ _.
      more_arguments-leaves frame others)

  pub more_arguments-leaves : {Q : ℕ → Type 0} (frame : ℕ) (next_expression : ExpressionTrees) → Leaves Q (more_arguments frame next_expression)
  more_arguments-leaves frame tree.end_of_expressions = give-leaves tt
  more_arguments-leaves frame (tree.more_expressions comma e rest) =
      bind-leaves (expression_uses-leaves frame e) (λ _. more_arguments-leaves frame rest)

  pub members_uses-leaves : {Q : ℕ → Type 0} (frame : ℕ) (members : MembersTree) → Leaves Q (members_uses frame members)
  members_uses-leaves frame (tree.empty_members open' close) = give-leaves tt
  members_uses-leaves frame (tree.some_members open' first others close) =
      bind-leaves (member_uses-leaves frame first) (λ _. more_members-leaves frame others)

  pub more_members-leaves : {Q : ℕ → Type 0} (frame : ℕ) (next_member' : MemberTrees) → Leaves Q (more_members frame next_member')
  more_members-leaves frame tree.end_of_members = give-leaves tt
  more_members-leaves frame (tree.more_members comma m rest) =
      bind-leaves (member_uses-leaves frame m) (λ _. more_members-leaves frame rest)

  pub member_uses-leaves : {Q : ℕ → Type 0} (frame : ℕ) (member : MemberTree) → Leaves Q (member_uses frame member)
  member_uses-leaves frame (tree.a_member first last) = bind-leaves (expression_uses-leaves frame first) (λ _.
      range_uses-leaves frame last)

  pub range_uses-leaves : {Q : ℕ → Type 0} (frame : ℕ) (last : RangeTree) → Leaves Q (range_uses frame last)
  range_uses-leaves frame tree.without_range = give-leaves tt
  range_uses-leaves frame (tree.a_range dots last') = expression_uses-leaves frame last'

pub access_type-leaves : {Q : ℕ → Type 0} (frame : ℕ) (a : AccessTree) → Leaves Q (access_type frame a)
access_type-leaves frame a =
    bind-leaves (named_variable-leaves frame a.name) (λ t. selected-leaves frame a.name t a.selectors)

pub access_uses-leaves : {Q : ℕ → Type 0} (frame : ℕ) (a : AccessTree) → Leaves Q (access_uses frame a)
access_uses-leaves frame a = bind-leaves (access_type-leaves frame a) (λ _. give-leaves tt)
