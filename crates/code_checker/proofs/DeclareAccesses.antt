-- What the steps of `Rattle.decl_checker.specs.Accesses` keep.
use Rattle.std.proofs.Common.{◌<◌, ℕ, Bool, false}
use Rattle.pas_tree.specs.ExpressionTrees.{AccessTree, ArgumentsTree, ExpressionTree, ExpressionTrees, FactorTree, FactorTrees, IndexTree, MemberTree}
use Rattle.pas_tree.specs.ExpressionTrees.{MemberTrees, MembersTree, RangeTree, RelationTree, SelectorTree, SelectorTrees, SimpleTree, TermTree, TermTrees}
use Rattle.pas_tree.specs.ExpressionTrees as tree
use Rattle.pas_tree.specs.TreeNodes.{access_node, arguments_node, expression_node, expressions_node, factor_node, factors_node, index_node, member_node}
use Rattle.pas_tree.specs.TreeNodes.{members_node, more_members_node, range_end_node, relation_node, selector_node, selectors_node, simple_node, term_node}
use Rattle.pas_tree.specs.TreeNodes.{terms_node}
use Rattle.check_steps.specs.Known.{name_at, type_at}
use Rattle.decl_checker.specs.Accesses.{access_type, access_uses, arguments_uses, component_type, domain, domain_type, expression_uses, factor_uses, field}
use Rattle.decl_checker.specs.Accesses.{field_type, indexed_type, indices, member_uses, members_uses, more_arguments, more_factors, more_indices, more_members}
use Rattle.decl_checker.specs.Accesses.{more_terms, name_use, named_variable, range_uses, relation_uses, selected, selector, simple_uses, term_uses, type_found}
use Rattle.code_checker.proofs.{CheckNames.use_at-holds, Steps.Holds, Steps.bind-holds, Steps.give-holds, Steps.look-holds, Within.Within}

pub name_use-holds : {size : ℕ} (frame : ℕ) (token : ℕ) → token < size → Holds size false (name_use frame token)
unfolding name_use
name_use-holds frame token token-in = bind-holds (use_at-holds frame token token token-in) (λ _. give-holds tt)

pub named_variable-holds : {size : ℕ} (frame : ℕ) (name : ℕ) → name < size → Holds size false (named_variable frame name)
unfolding named_variable
named_variable-holds frame name name-in = bind-holds (use_at-holds frame name name name-in) (λ found. look-holds (λ k. type_found k found name))

pub indexed_type-holds : {size : ℕ} {later : Bool} (unknown : ℕ) (t : ℕ) → Holds size later (indexed_type unknown t)
unfolding indexed_type
indexed_type-holds unknown t = look-holds (λ k. component_type (type_at k t) unknown)

pub field-holds : {size : ℕ} {later : Bool} (unknown : ℕ) (t : ℕ) (token : ℕ) → Holds size later (field unknown t token)
unfolding field
field-holds unknown t token = look-holds (λ k. field_type k (type_at k t) (name_at k token) unknown)

pub domain-holds : {size : ℕ} {later : Bool} (unknown : ℕ) (t : ℕ) → Holds size later (domain unknown t)
unfolding domain
domain-holds unknown t = look-holds (λ k. domain_type (type_at k t) unknown)

mutual
  pub expression_uses-holds : {size : ℕ} (frame : ℕ) (expression : ExpressionTree) → Within size (expression_node expression)
      → Holds size false (expression_uses frame expression)
  expression_uses-holds frame (tree.an_expression left relation) expression-in = bind-holds (simple_uses-holds frame left expression-in.0) (λ _.
      relation_uses-holds frame relation expression-in.1)

  pub relation_uses-holds : {size : ℕ} (frame : ℕ) (relation : RelationTree) → Within size (relation_node relation)
      → Holds size false (relation_uses frame relation)
  relation_uses-holds frame tree.without_relation relation-in = give-holds tt
  relation_uses-holds frame (tree.a_relation operator right) relation-in = simple_uses-holds frame right relation-in.1

  pub simple_uses-holds : {size : ℕ} (frame : ℕ) (simple : SimpleTree) → Within size (simple_node simple) → Holds size false (simple_uses frame simple)
  simple_uses-holds frame (tree.a_simple sign first others) simple-in = bind-holds (term_uses-holds frame first simple-in.1.0) (λ _.
      more_terms-holds frame others simple-in.1.1)

  pub more_terms-holds : {size : ℕ} (frame : ℕ) (next_term' : TermTrees) → Within size (terms_node next_term')
      → Holds size false (more_terms frame next_term')
  more_terms-holds frame tree.end_of_terms next_term-in = give-holds tt
  more_terms-holds frame (tree.more_terms operator t rest) next_term-in =
      bind-holds (term_uses-holds frame t next_term-in.0.1) (λ _. more_terms-holds frame rest next_term-in.1)

  pub term_uses-holds : {size : ℕ} (frame : ℕ) (term : TermTree) → Within size (term_node term) → Holds size false (term_uses frame term)
  term_uses-holds frame (tree.a_term first others) term-in = bind-holds (factor_uses-holds frame first term-in.0)
      (λ _. more_factors-holds frame others term-in.1)

  pub more_factors-holds : {size : ℕ} (frame : ℕ) (next_factor' : FactorTrees) → Within size (factors_node next_factor')
      → Holds size false (more_factors frame next_factor')
  more_factors-holds frame tree.end_of_factors next_factor-in = give-holds tt
  more_factors-holds frame (tree.more_factors operator f rest) next_factor-in = bind-holds (factor_uses-holds frame f next_factor-in.0.1) (λ _.
      more_factors-holds frame rest next_factor-in.1)

  pub factor_uses-holds : {size : ℕ} (frame : ℕ) (factor : FactorTree) → Within size (factor_node factor) → Holds size false (factor_uses frame factor)
  factor_uses-holds frame (tree.a_number n) factor-in = give-holds tt
  factor_uses-holds frame (tree.a_text n) factor-in = give-holds tt
  factor_uses-holds frame (tree.a_nil n) factor-in = give-holds tt
  factor_uses-holds frame (tree.an_access name selectors) factor-in = bind-holds (named_variable-holds frame name factor-in.0) (λ t.
      bind-holds (selected-holds frame name t selectors factor-in.1) (λ _. give-holds tt))
  factor_uses-holds frame (tree.a_call name arguments) factor-in = bind-holds (name_use-holds frame name factor-in.0) (λ _.
      arguments_uses-holds frame arguments factor-in.1)
  factor_uses-holds frame (tree.a_paren open' e close) factor-in = expression_uses-holds frame e factor-in.1.0
  factor_uses-holds frame (tree.a_set members) factor-in = members_uses-holds frame members factor-in
  factor_uses-holds frame (tree.a_not n f) factor-in = factor_uses-holds frame f factor-in.1

  pub selected-holds : {size : ℕ} (frame : ℕ) (unknown : ℕ) (t : ℕ) (selector' : SelectorTrees) → Within size (selectors_node selector')
      → Holds size false (selected frame unknown t selector')
  selected-holds frame unknown t tree.end_of_selectors selector-in = give-holds t
  selected-holds frame unknown t (tree.more_selectors s rest) selector-in = bind-holds (selector-holds frame unknown t s selector-in.0) (λ part.
      selected-holds frame unknown part rest selector-in.1)

  pub selector-holds : {size : ℕ} (frame : ℕ) (unknown : ℕ) (t : ℕ) (selector' : SelectorTree) → Within size (selector_node selector')
      → Holds size false (selector frame unknown t selector')
  selector-holds frame unknown t (tree.an_index i) selector-in = indices-holds frame unknown t i selector-in
  selector-holds frame unknown t (tree.a_field dot name) selector-in = field-holds unknown t name
  selector-holds frame unknown t (tree.a_caret n) selector-in = domain-holds unknown t

  pub indices-holds : {size : ℕ} (frame : ℕ) (unknown : ℕ) (t : ℕ) (index : IndexTree) → Within size (index_node index)
      → Holds size false (indices frame unknown t index)
  indices-holds frame unknown t (tree.index_list open' first others close) index-in = bind-holds (expression_uses-holds frame first index-in.1.0) (λ _.
      bind-holds (indexed_type-holds unknown t) (λ part. more_indices-holds frame unknown part others index-in.1.1.0))

  pub more_indices-holds : {size : ℕ} (frame : ℕ) (unknown : ℕ) (t : ℕ) (next_expression : ExpressionTrees)
      → Within size (expressions_node next_expression) → Holds size false (more_indices frame unknown t next_expression)
  more_indices-holds frame unknown t tree.end_of_expressions next_expression-in = give-holds t
  more_indices-holds frame unknown t (tree.more_expressions comma e rest) next_expression-in =
      bind-holds (bind-holds (expression_uses-holds frame e next_expression-in.0.1) (λ _. indexed_type-holds unknown t)) (λ part.
      more_indices-holds frame unknown part rest next_expression-in.1)

  pub arguments_uses-holds : {size : ℕ} (frame : ℕ) (arguments : ArgumentsTree) → Within size (arguments_node arguments)
      → Holds size false (arguments_uses frame arguments)
  arguments_uses-holds frame (tree.argument_list open' first others close) arguments-in = bind-holds (expression_uses-holds frame first arguments-in.1.0) (λ _.
      more_arguments-holds frame others arguments-in.1.1.0)

  pub more_arguments-holds : {size : ℕ} (frame : ℕ) (next_expression : ExpressionTrees) → Within size (expressions_node next_expression)
      → Holds size false (more_arguments frame next_expression)
  more_arguments-holds frame tree.end_of_expressions next_expression-in = give-holds tt
  more_arguments-holds frame (tree.more_expressions comma e rest) next_expression-in =
      bind-holds (expression_uses-holds frame e next_expression-in.0.1) (λ _. more_arguments-holds frame rest next_expression-in.1)

  pub members_uses-holds : {size : ℕ} (frame : ℕ) (members : MembersTree) → Within size (members_node members) → Holds size false (members_uses frame members)
  members_uses-holds frame (tree.empty_members open' close) members-in = give-holds tt
  members_uses-holds frame (tree.some_members open' first others close) members-in =
      bind-holds (member_uses-holds frame first members-in.1.0) (λ _. more_members-holds frame others members-in.1.1.0)

  pub more_members-holds : {size : ℕ} (frame : ℕ) (next_member' : MemberTrees) → Within size (more_members_node next_member')
      → Holds size false (more_members frame next_member')
  more_members-holds frame tree.end_of_members next_member-in = give-holds tt
  more_members-holds frame (tree.more_members comma m rest) next_member-in =
      bind-holds (member_uses-holds frame m next_member-in.0.1) (λ _. more_members-holds frame rest next_member-in.1)

  pub member_uses-holds : {size : ℕ} (frame : ℕ) (member : MemberTree) → Within size (member_node member) → Holds size false (member_uses frame member)
  member_uses-holds frame (tree.a_member first last) member-in = bind-holds (expression_uses-holds frame first member-in.0) (λ _.
      range_uses-holds frame last member-in.1)

  pub range_uses-holds : {size : ℕ} (frame : ℕ) (last : RangeTree) → Within size (range_end_node last)
      → Holds size false (range_uses frame last)
  range_uses-holds frame tree.without_range last-in = give-holds tt
  range_uses-holds frame (tree.a_range dots last') last-in = expression_uses-holds frame last' last-in.1

pub access_type-holds : {size : ℕ} (frame : ℕ) (a : AccessTree) → Within size (access_node a) → Holds size false (access_type frame a)
access_type-holds frame a a-in =
    bind-holds (named_variable-holds frame a.name a-in.0) (λ t. selected-holds frame a.name t a.selectors a-in.1)

pub access_uses-holds : {size : ℕ} (frame : ℕ) (a : AccessTree) → Within size (access_node a) → Holds size false (access_uses frame a)
access_uses-holds frame a a-in = bind-holds (access_type-holds frame a a-in) (λ _. give-holds tt)
