-- What the steps of `Rattle.expression_checker.specs.Expressions` keep.
use Rattle.std.proofs.Common.{◌<◌, ℕ, Bool, None, false, true}
use Rattle.pas_tree.specs.{ExpressionPlaces.first_of_expression, TreeNodes.terms_node, declared.constants.Constant.Constant}
use Rattle.pas_tree.specs.ExpressionTrees.{AccessTree, ArgumentsTree, ExpressionTree, ExpressionTrees, FactorTree, FactorTrees, IndexTree, MemberTree}
use Rattle.pas_tree.specs.ExpressionTrees.{MemberTrees, MembersTree, RangeTree, RelationTree, SelectorTree, SelectorTrees, SimpleTree, TermTree, TermTrees}
use Rattle.pas_tree.specs.ExpressionTrees as tree
use Rattle.pas_tree.specs.OperatorPlaces.{adding_token, multiplying_token, relational_token}
use Rattle.pas_tree.specs.TreeNodes.{access_node, arguments_node, expression_node, expressions_node, factor_node, factors_node, index_node, member_node}
use Rattle.pas_tree.specs.TreeNodes.{members_node, more_members_node, range_end_node, relation_node, selector_node, selectors_node, simple_node, term_node}
use Rattle.expression_checker.specs.{Members.nothing_gathered, Names.meaning_of, NamesAlone.is_name, NamesAlone.name_alone, Typed.bracketed, Typed.unknown_at}
use Rattle.expression_checker.specs.Expressions.{access, actual, call, constructor, count_of, designator, expression, factor, factors, index_at, member}
use Rattle.expression_checker.specs.Expressions.{more_arguments, more_indexes, more_members, name_factor, named_as, passing_to, range, related, root_name}
use Rattle.expression_checker.specs.Expressions.{selected, selector, simple, term, terms}
use Rattle.expression_checker.specs.Operations.{adding_operator, multiplying_operator, relational_operator}
use Rattle.expression_checker.specs.declared.{actuals.Passing.Passing, names.Meaning.Meaning, typed.Typed.Typed}
use Rattle.expression_checker.specs.declared.members.{Gathered.Gathered, MemberStart.MemberStart}
use Rattle.code_checker.proofs.{CheckNames.use_again-holds, ExpressionActuals.actual_by-holds, ExpressionCallees.applied-holds}
use Rattle.code_checker.proofs.{ExpressionCallees.called_function-holds, ExpressionNames.accessed_as-holds, ExpressionNames.bound_at-holds}
use Rattle.code_checker.proofs.{ExpressionNames.variable-holds, ExpressionTyped.constant_at-holds, ExpressionTyped.literal-holds, ExpressionTyped.nil_at-holds}
use Rattle.code_checker.proofs.{Parts.name_alone-in, Steps.Holds, Steps.bind-holds, Steps.give-holds, Steps.look-holds, Within.Within}
use Rattle.code_checker.proofs.ExpressionMembers.{member_range-holds, one_member-holds, set_constructor-holds}
use Rattle.code_checker.proofs.ExpressionOperations.{negated-holds, operated-holds, signed-holds}
use Rattle.code_checker.proofs.ExpressionSelectors.{dereferenced-holds, indexed-holds, selected_field-holds}
use Rattle.code_checker.proofs.TokenPlaces.{adding_token-in, first_of_expression-in, multiplying_token-in, relational_token-in}

pub designator-holds : {size : ℕ} {later : Bool} (frame : ℕ) (name : ℕ) → name < size → Holds size later (designator frame name)
unfolding designator
designator-holds frame name name-in = bind-holds (called_function-holds frame name 0 name-in) (λ c. applied-holds name c.callee (unknown_at name) 0)

pub named_as-holds : {size : ℕ} {later : Bool} (frame : ℕ) (name : ℕ) (m : Meaning) → name < size → Holds size later (named_as frame name m)
named_as-holds frame name (Meaning.Constant v) name-in = constant_at-holds name v
named_as-holds frame name (Meaning.Bound r of') name-in = bound_at-holds name r of'
named_as-holds frame name Meaning.Other name-in = designator-holds frame name name-in
named_as-holds frame name m name-in = accessed_as-holds name m

pub name_factor-holds : {size : ℕ} {later : Bool} (frame : ℕ) (name : ℕ) → name < size → Holds size later (name_factor frame name)
unfolding name_factor
name_factor-holds frame name name-in = bind-holds (use_again-holds frame name name-in) (λ found. bind-holds (look-holds
    (λ k. meaning_of k frame found)) (λ m. named_as-holds frame name m name-in))

pub root_name-holds : {size : ℕ} {later : Bool} (frame : ℕ) (bool : Bool) (name : ℕ) → name < size → Holds size later (root_name frame bool name)
root_name-holds frame true name name-in = name_factor-holds frame name name-in
root_name-holds frame false name name-in = variable-holds frame name name-in

mutual
  pub expression-holds : {size : ℕ} {later : Bool} (frame : ℕ) (expression' : ExpressionTree) → Within size (expression_node expression')
      → Holds size later (expression frame expression')
  expression-holds frame (tree.an_expression left relation) expression-in = bind-holds (simple-holds frame left expression-in.0) (λ l.
      related-holds frame l relation expression-in.1)

  pub related-holds : {size : ℕ} {later : Bool} (frame : ℕ) (l : Typed) (relation : RelationTree) → Within size (relation_node relation)
      → Holds size later (related frame l relation)
  related-holds frame l tree.without_relation relation-in = give-holds l
  related-holds frame l (tree.a_relation operator right) relation-in = bind-holds (simple-holds frame right relation-in.1) (λ r.
      operated-holds (relational_operator operator) (relational_token operator) l r (relational_token-in operator relation-in.0))

  pub simple-holds : {size : ℕ} {later : Bool} (frame : ℕ) (simple' : SimpleTree) → Within size (simple_node simple') → Holds size later (simple frame simple')
  simple-holds frame (tree.a_simple sign first others) simple-in = bind-holds (term-holds frame first simple-in.1.0) (λ t.
      bind-holds (signed-holds sign t simple-in.0) (λ one. terms-holds frame one others simple-in.1.1))

  pub terms-holds : {size : ℕ} {later : Bool} (frame : ℕ) (t : Typed) (next_term' : TermTrees) → Within size (terms_node next_term')
      → Holds size later (terms frame t next_term')
  terms-holds frame t tree.end_of_terms next_term-in = give-holds t
  terms-holds frame t (tree.more_terms operator x rest) next_term-in =
      bind-holds (bind-holds (term-holds frame x next_term-in.0.1) (λ u.
      operated-holds (adding_operator operator) (adding_token operator) t u (adding_token-in operator next_term-in.0.0))) (λ u.
      terms-holds frame u rest next_term-in.1)

  pub term-holds : {size : ℕ} {later : Bool} (frame : ℕ) (term' : TermTree) → Within size (term_node term') → Holds size later (term frame term')
  term-holds frame (tree.a_term first others) term-in = bind-holds (factor-holds frame first term-in.0) (λ f. factors-holds frame f others term-in.1)

  pub factors-holds : {size : ℕ} {later : Bool} (frame : ℕ) (f : Typed) (next_factor' : FactorTrees) → Within size (factors_node next_factor')
      → Holds size later (factors frame f next_factor')
  factors-holds frame f tree.end_of_factors next_factor-in = give-holds f
  factors-holds frame f (tree.more_factors operator x rest) next_factor-in =
      bind-holds (bind-holds (factor-holds frame x next_factor-in.0.1) (λ g.
      operated-holds (multiplying_operator operator) (multiplying_token operator) f g (multiplying_token-in operator next_factor-in.0.0))) (λ h.
      factors-holds frame h rest next_factor-in.1)

  pub factor-holds : {size : ℕ} {later : Bool} (frame : ℕ) (factor' : FactorTree) → Within size (factor_node factor') → Holds size later (factor frame factor')
  factor-holds frame (tree.a_number token) factor-in = literal-holds token (Constant.Number None token) factor-in
  factor-holds frame (tree.a_text token) factor-in = literal-holds token (Constant.Text token) factor-in
  factor-holds frame (tree.a_nil token) factor-in = nil_at-holds token
  factor-holds frame (tree.an_access name selectors) factor-in = bind-holds (root_name-holds frame (is_name selectors) name factor-in.0) (λ one.
      selected-holds frame one selectors factor-in.1)
  factor-holds frame (tree.a_call name a) factor-in = call-holds frame name (count_of a) a factor-in.0 factor-in.1
  factor-holds frame (tree.a_paren open' e close) factor-in = bind-holds (expression-holds frame e factor-in.1.0) (λ v. give-holds (bracketed v))
  factor-holds frame (tree.a_set m) factor-in = constructor-holds frame m factor-in
  factor-holds frame (tree.a_not word f) factor-in = bind-holds (factor-holds frame f factor-in.1) (λ v. negated-holds word v factor-in.0)

  pub call-holds : {size : ℕ} {later : Bool} (frame : ℕ) (name : ℕ) (count : ℕ) (arguments : ArgumentsTree) → name < size
      → Within size (arguments_node arguments)
      → Holds size later (call frame name count arguments)
  call-holds {size = size} frame name count (tree.argument_list open' first others close) name-in arguments-in =
      bind-holds (called_function-holds frame name count name-in) (λ c. bind-holds (actual_by-holds frame (passing_to c name) open' (name_alone first)
      (first_of_expression first) (expression frame first) (name_alone-in size first arguments-in.1.0) (first_of_expression-in first arguments-in.1.0)
      (expression-holds frame first arguments-in.1.0)) (λ one. bind-holds (more_arguments-holds frame one others arguments-in.1.1.0) (λ all.
      applied-holds name c.callee all.value open')))

  pub more_arguments-holds : {size : ℕ} {later : Bool} (frame : ℕ) (p : Passing) (next_expression : ExpressionTrees)
      → Within size (expressions_node next_expression) → Holds size later (more_arguments frame p next_expression)
  more_arguments-holds frame p tree.end_of_expressions next_expression-in = give-holds p
  more_arguments-holds {size = size} frame p (tree.more_expressions comma e rest) next_expression-in =
      let e-in = next_expression-in.0.1 in
      bind-holds (actual_by-holds frame p comma (name_alone e) (first_of_expression e) (expression frame e) (name_alone-in size e e-in)
      (first_of_expression-in e e-in) (expression-holds frame e e-in)) (λ next. more_arguments-holds frame next rest next_expression-in.1)

  pub selected-holds : {size : ℕ} {later : Bool} (frame : ℕ) (p : Typed) (selector' : SelectorTrees) → Within size (selectors_node selector')
      → Holds size later (selected frame p selector')
  selected-holds frame p tree.end_of_selectors selector-in = give-holds p
  selected-holds frame p (tree.more_selectors s rest) selector-in = bind-holds (selector-holds frame p s selector-in.0) (λ next.
      selected-holds frame next rest selector-in.1)

  pub selector-holds : {size : ℕ} {later : Bool} (frame : ℕ) (p : Typed) (selector' : SelectorTree) → Within size (selector_node selector')
      → Holds size later (selector frame p selector')
  selector-holds frame p (tree.an_index i) selector-in = index_at-holds frame p i selector-in
  selector-holds frame p (tree.a_field dot name) selector-in = selected_field-holds p dot name selector-in.0 selector-in.1
  selector-holds frame p (tree.a_caret caret) selector-in = dereferenced-holds p caret selector-in

  pub index_at-holds : {size : ℕ} {later : Bool} (frame : ℕ) (p : Typed) (index : IndexTree) → Within size (index_node index)
      → Holds size later (index_at frame p index)
  index_at-holds frame p (tree.index_list open' first others close) index-in =
      bind-holds (bind-holds (expression-holds frame first index-in.1.0) (λ i.
      indexed-holds p open' (first_of_expression first) i index-in.0 (first_of_expression-in first index-in.1.0))) (λ next.
      more_indexes-holds frame next others index-in.1.1.0)

  pub more_indexes-holds : {size : ℕ} {later : Bool} (frame : ℕ) (p : Typed) (next_expression : ExpressionTrees)
      → Within size (expressions_node next_expression) → Holds size later (more_indexes frame p next_expression)
  more_indexes-holds frame p tree.end_of_expressions next_expression-in = give-holds p
  more_indexes-holds frame p (tree.more_expressions comma e rest) next_expression-in =
      bind-holds (bind-holds (expression-holds frame e next_expression-in.0.1) (λ i.
      indexed-holds p comma (first_of_expression e) i next_expression-in.0.0 (first_of_expression-in e next_expression-in.0.1))) (λ next.
      more_indexes-holds frame next rest next_expression-in.1)

  pub constructor-holds : {size : ℕ} {later : Bool} (frame : ℕ) (members : MembersTree) → Within size (members_node members)
      → Holds size later (constructor frame members)
  constructor-holds frame (tree.empty_members open' close) members-in = set_constructor-holds (nothing_gathered close) 0 close
  constructor-holds frame (tree.some_members open' first others close) members-in =
      bind-holds (member-holds frame (nothing_gathered close) open' first members-in.1.0) (λ one.
      bind-holds (more_members-holds frame one others members-in.1.1.0) (λ all. set_constructor-holds all open' close))

  pub more_members-holds : {size : ℕ} {later : Bool} (frame : ℕ) (g : Gathered) (next_member' : MemberTrees)
      → Within size (more_members_node next_member') → Holds size later (more_members frame g next_member')
  more_members-holds frame g tree.end_of_members next_member-in = give-holds g
  more_members-holds frame g (tree.more_members comma m rest) next_member-in =
      bind-holds (member-holds frame g comma m next_member-in.0.1) (λ next. more_members-holds frame next rest next_member-in.1)

  pub member-holds : {size : ℕ} {later : Bool} (frame : ℕ) (g : Gathered) (slot : ℕ) (member' : MemberTree) → Within size (member_node member')
      → Holds size later (member frame g slot member')
  member-holds frame g slot (tree.a_member first last) member-in = bind-holds (expression-holds frame first member-in.0) (λ v. range-holds frame g (record {
    slot = slot;
    first = first_of_expression first;
    value = v;
  }) last (first_of_expression-in first member-in.0) member-in.1)

  pub range-holds : {size : ℕ} {later : Bool} (frame : ℕ) (g : Gathered) (b : MemberStart) (last : RangeTree) → b.first < size
      → Within size (range_end_node last) → Holds size later (range frame g b last)
  range-holds frame g b tree.without_range b-in last-in = one_member-holds g b b-in
  range-holds frame g b (tree.a_range dots last) b-in last-in =
      bind-holds (expression-holds frame last last-in.1) (λ v. member_range-holds g b v b-in)

pub actual-holds : {size : ℕ} {later : Bool} (frame : ℕ) (p : Passing) (slot : ℕ) (e : ExpressionTree) → Within size (expression_node e)
    → Holds size later (actual frame p slot e)
actual-holds {size = size} frame p slot e e-in = actual_by-holds frame p slot (name_alone e) (first_of_expression e) (expression frame e) (name_alone-in size
    e e-in) (first_of_expression-in e e-in) (expression-holds frame e e-in)

pub access-holds : {size : ℕ} {later : Bool} (frame : ℕ) (a : AccessTree) → Within size (access_node a) → Holds size later (access frame a)
access-holds frame a a-in = bind-holds (variable-holds frame a.name a-in.0) (λ one. selected-holds frame one a.selectors a-in.1)
