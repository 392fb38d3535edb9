-- What the steps of `Rattle.decl_checker.specs.Accesses` break.
use Rattle.std.proofs.Common.{ℕ}
use Rattle.pas_tree.specs.ExpressionTrees.{AccessTree, ArgumentsTree, ExpressionTree, ExpressionTrees, FactorTree, FactorTrees, IndexTree, MemberTree}
use Rattle.pas_tree.specs.ExpressionTrees.{MemberTrees, MembersTree, RangeTree, RelationTree, SelectorTree, SelectorTrees, SimpleTree, TermTree, TermTrees}
use Rattle.pas_tree.specs.ExpressionTrees as tree
use Rattle.check_steps.specs.Known.{name_at, type_at}
use Rattle.decl_checker.specs.Accesses.{access_type, access_uses, arguments_uses, component_type, domain, domain_type, expression_uses, factor_uses, field}
use Rattle.decl_checker.specs.Accesses.{field_type, indexed_type, indices, member_uses, members_uses, more_arguments, more_factors, more_indices, more_members}
use Rattle.decl_checker.specs.Accesses.{more_terms, name_use, named_variable, range_uses, relation_uses, selected, selector, simple_uses, term_uses, type_found}
use Rattle.rule_laws.proofs.Plain.{Aim, Plain, Solely, bind-solely, give-solely, look-solely}
use Rattle.rule_laws.proofs.PlainNames.{use_at-plain}

pub name_use-plain : {aim : Aim} (kept : Plain aim) (frame token : ℕ) → Solely aim (name_use frame token)
unfolding name_use
name_use-plain kept frame token = bind-solely (use_at-plain kept frame token token) (λ _. give-solely tt)

pub named_variable-plain : {aim : Aim} (kept : Plain aim) (frame name : ℕ) → Solely aim (named_variable frame name)
unfolding named_variable
named_variable-plain kept frame name = bind-solely (use_at-plain kept frame name name) (λ found. look-solely (λ k. type_found k found name))

pub indexed_type-plain : {aim : Aim} (kept : Plain aim) (unknown t : ℕ) → Solely aim (indexed_type unknown t)
unfolding indexed_type
indexed_type-plain kept unknown t = look-solely (λ k. component_type (type_at k t) unknown)

pub field-plain : {aim : Aim} (kept : Plain aim) (unknown t token : ℕ) → Solely aim (field unknown t token)
unfolding field
field-plain kept unknown t token = look-solely (λ k. field_type k (type_at k t) (name_at k token) unknown)

pub domain-plain : {aim : Aim} (kept : Plain aim) (unknown t : ℕ) → Solely aim (domain unknown t)
unfolding domain
domain-plain kept unknown t = look-solely (λ k. domain_type (type_at k t) unknown)

mutual
  pub expression_uses-plain : {aim : Aim} (kept : Plain aim) (frame : ℕ) (expression : ExpressionTree)
      → Solely aim (expression_uses frame expression)
  expression_uses-plain kept frame (tree.an_expression left relation) =
      bind-solely (simple_uses-plain kept frame left) (λ _. relation_uses-plain kept frame relation)

  pub relation_uses-plain : {aim : Aim} (kept : Plain aim) (frame : ℕ) (relation : RelationTree)
      → Solely aim (relation_uses frame relation)
  relation_uses-plain kept frame tree.without_relation = give-solely tt
  relation_uses-plain kept frame (tree.a_relation operator right) = simple_uses-plain kept frame right

  pub simple_uses-plain : {aim : Aim} (kept : Plain aim) (frame : ℕ) (simple : SimpleTree)
      → Solely aim (simple_uses frame simple)
  simple_uses-plain kept frame (tree.a_simple sign first others) = bind-solely (term_uses-plain kept frame first) (λ _. more_terms-plain kept frame others)

  pub more_terms-plain : {aim : Aim} (kept : Plain aim) (frame : ℕ) (next_term' : TermTrees)
      → Solely aim (more_terms frame next_term')
  more_terms-plain kept frame tree.end_of_terms = give-solely tt
  more_terms-plain kept frame (tree.more_terms operator t rest) = bind-solely (term_uses-plain kept frame t) (λ _. more_terms-plain kept frame rest)

  pub term_uses-plain : {aim : Aim} (kept : Plain aim) (frame : ℕ) (term : TermTree) → Solely aim (term_uses frame term)
  term_uses-plain kept frame (tree.a_term first others) = bind-solely (factor_uses-plain kept frame first) (λ _. more_factors-plain kept frame others)

  pub more_factors-plain : {aim : Aim} (kept : Plain aim) (frame : ℕ) (next_factor' : FactorTrees)
      → Solely aim (more_factors frame next_factor')
  more_factors-plain kept frame tree.end_of_factors = give-solely tt
  more_factors-plain kept frame (tree.more_factors operator f rest) = bind-solely (factor_uses-plain kept frame f) (λ _. more_factors-plain kept frame rest)

  pub factor_uses-plain : {aim : Aim} (kept : Plain aim) (frame : ℕ) (factor : FactorTree)
      → Solely aim (factor_uses frame factor)
  factor_uses-plain kept frame (tree.a_number n) = give-solely tt
  factor_uses-plain kept frame (tree.a_text n) = give-solely tt
  factor_uses-plain kept frame (tree.a_nil n) = give-solely tt
  factor_uses-plain kept frame (tree.an_access name selectors) = bind-solely (named_variable-plain kept frame name)
      (λ t. bind-solely (selected-plain kept frame name t selectors) (λ _. give-solely tt))
  factor_uses-plain kept frame (tree.a_call name arguments) = bind-solely (name_use-plain kept frame name) (λ _. arguments_uses-plain kept frame arguments)
  factor_uses-plain kept frame (tree.a_paren open' e close) = expression_uses-plain kept frame e
  factor_uses-plain kept frame (tree.a_set members) = members_uses-plain kept frame members
  factor_uses-plain kept frame (tree.a_not n f) = factor_uses-plain kept frame f

  pub selected-plain : {aim : Aim} (kept : Plain aim) (frame unknown t : ℕ) (selector' : SelectorTrees)
      → Solely aim (selected frame unknown t selector')
  selected-plain kept frame unknown t tree.end_of_selectors = give-solely t
  selected-plain kept frame unknown t (tree.more_selectors s rest) =
      bind-solely (selector-plain kept frame unknown t s) (λ part. selected-plain kept frame unknown part rest)

  pub selector-plain : {aim : Aim} (kept : Plain aim) (frame unknown t : ℕ) (selector' : SelectorTree)
      → Solely aim (selector frame unknown t selector')
  selector-plain kept frame unknown t (tree.an_index i) = indices-plain kept frame unknown t i
  selector-plain kept frame unknown t (tree.a_field dot name) = field-plain kept unknown t name
  selector-plain kept frame unknown t (tree.a_caret n) = domain-plain kept unknown t

  pub indices-plain : {aim : Aim} (kept : Plain aim) (frame unknown t : ℕ) (index : IndexTree)
      → Solely aim (indices frame unknown t index)
  indices-plain kept frame unknown t (tree.index_list open' first others close) =
      bind-solely (expression_uses-plain kept frame first) (λ _. bind-solely (indexed_type-plain kept unknown t)
      (λ part. more_indices-plain kept frame unknown part others))

  pub more_indices-plain : {aim : Aim} (kept : Plain aim) (frame unknown t : ℕ) (next_expression : ExpressionTrees)
      → Solely aim (more_indices frame unknown t next_expression)
  more_indices-plain kept frame unknown t tree.end_of_expressions = give-solely t
  more_indices-plain kept frame unknown t (tree.more_expressions comma e rest) =
      bind-solely (bind-solely (expression_uses-plain kept frame e) (λ _. indexed_type-plain kept unknown t))
      (λ part. more_indices-plain kept frame unknown part rest)

  pub arguments_uses-plain : {aim : Aim} (kept : Plain aim) (frame : ℕ) (arguments : ArgumentsTree)
      → Solely aim (arguments_uses frame arguments)
  arguments_uses-plain kept frame (tree.argument_list open' first others close) =
      bind-solely (expression_uses-plain kept frame first) (λ _. more_arguments-plain kept frame others)

  pub more_arguments-plain : {aim : Aim} (kept : Plain aim) (frame : ℕ) (next_expression : ExpressionTrees)
      → Solely aim (more_arguments frame next_expression)
  more_arguments-plain kept frame tree.end_of_expressions = give-solely tt
  more_arguments-plain kept frame (tree.more_expressions comma e rest) =
      bind-solely (expression_uses-plain kept frame e) (λ _. more_arguments-plain kept frame rest)

  pub members_uses-plain : {aim : Aim} (kept : Plain aim) (frame : ℕ) (members : MembersTree)
      → Solely aim (members_uses frame members)
  members_uses-plain kept frame (tree.empty_members open' close) = give-solely tt
  members_uses-plain kept frame (tree.some_members open' first others close) =
      bind-solely (member_uses-plain kept frame first) (λ _. more_members-plain kept frame others)

  pub more_members-plain : {aim : Aim} (kept : Plain aim) (frame : ℕ) (next_member' : MemberTrees)
      → Solely aim (more_members frame next_member')
  more_members-plain kept frame tree.end_of_members = give-solely tt
  more_members-plain kept frame (tree.more_members comma m rest) = bind-solely (member_uses-plain kept frame m) (λ _. more_members-plain kept frame rest)

  pub member_uses-plain : {aim : Aim} (kept : Plain aim) (frame : ℕ) (member : MemberTree)
      → Solely aim (member_uses frame member)
  member_uses-plain kept frame (tree.a_member first last) = bind-solely (expression_uses-plain kept frame first) (λ _. range_uses-plain kept frame last)

  pub range_uses-plain : {aim : Aim} (kept : Plain aim) (frame : ℕ) (last : RangeTree) → Solely aim (range_uses frame last)
  range_uses-plain kept frame tree.without_range = give-solely tt
  range_uses-plain kept frame (tree.a_range dots last') = expression_uses-plain kept frame last'

pub access_type-plain : {aim : Aim} (kept : Plain aim) (frame : ℕ) (a : AccessTree) → Solely aim (access_type frame a)
access_type-plain kept frame a = bind-solely (named_variable-plain kept frame a.name) (λ t. selected-plain kept frame a.name t a.selectors)

pub access_uses-plain : {aim : Aim} (kept : Plain aim) (frame : ℕ) (a : AccessTree) → Solely aim (access_uses frame a)
access_uses-plain kept frame a = bind-solely (access_type-plain kept frame a) (λ _. give-solely tt)
