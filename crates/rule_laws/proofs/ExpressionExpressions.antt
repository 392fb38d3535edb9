-- What the steps of `Rattle.expression_checker.specs.Expressions` touch.
use Rattle.std.proofs.Common.{ℕ, Bool, None, false, true}
use Rattle.pas_tree.specs.{ExpressionPlaces.first_of_expression, TreeNodes.terms_node, declared.constants.Constant.Constant}
use Rattle.pas_tree.specs.ExpressionTrees.{AccessTree, ArgumentsTree, ExpressionTree, ExpressionTrees, FactorTree, FactorTrees, IndexTree, MemberTree}
use Rattle.pas_tree.specs.ExpressionTrees.{MemberTrees, MembersTree, RangeTree, RelationTree, SelectorTree, SelectorTrees, SimpleTree, TermTree, TermTrees}
use Rattle.pas_tree.specs.ExpressionTrees as tree
use Rattle.pas_tree.specs.OperatorPlaces.{adding_token, multiplying_token, relational_token}
use Rattle.pas_tree.specs.TreeNodes.{access_node, arguments_node, expression_node, expressions_node, factor_node, factors_node, index_node, member_node}
use Rattle.pas_tree.specs.TreeNodes.{members_node, more_members_node, range_end_node, relation_node, selector_node, selectors_node, simple_node, term_node}
use Rattle.expression_checker.specs.{Members.nothing_gathered, Names.meaning_of, NamesAlone.is_name, NamesAlone.name_alone, Typed.bracketed, Typed.unknown_at}
use Rattle.expression_checker.specs.Expressions.{access, actual, call, constructor, count_of, designator, expression, factor, factors, index_at, member}
use Rattle.expression_checker.specs.Expressions.{more_arguments, more_indexes, more_members, name_factor, named_as, passing_to, range, related, root_name}
use Rattle.expression_checker.specs.Expressions.{selected, selector, simple, term, terms}
use Rattle.expression_checker.specs.Operations.{adding_operator, multiplying_operator, relational_operator}
use Rattle.expression_checker.specs.declared.{actuals.Passing.Passing, names.Meaning.Meaning, typed.Typed.Typed}
use Rattle.expression_checker.specs.declared.members.{Gathered.Gathered, MemberStart.MemberStart}
use Rattle.rule_laws.proofs.{CheckNames.use_again-touches, Every.Every, Every.Of, ExpressionActuals.actual_by-touches, Faces.Shown, Parts.name_alone-in}
use Rattle.rule_laws.proofs.ExpressionCallees.{applied-touches, called_function-touches}
use Rattle.rule_laws.proofs.ExpressionMembers.{member_range-touches, one_member-touches, set_constructor-touches}
use Rattle.rule_laws.proofs.ExpressionNames.{accessed_as-touches, bound_at-touches, variable-touches}
use Rattle.rule_laws.proofs.ExpressionOperations.{negated-touches, operated-touches, signed-touches}
use Rattle.rule_laws.proofs.ExpressionSelectors.{dereferenced-touches, indexed-touches, selected_field-touches}
use Rattle.rule_laws.proofs.ExpressionTyped.{constant_at-touches, literal-touches, nil_at-touches}
use Rattle.rule_laws.proofs.TokenPlaces.{adding_token-in, first_of_expression-in, multiplying_token-in, relational_token-in}
use Rattle.rule_laws.proofs.Touches.{Touches, bind-touches, give-touches, look-touches}

pub designator-touches : {Q : ℕ → Type 0} {strict : Shown} (frame : ℕ) (name : ℕ) → Of Q name → Touches Q strict (designator frame name)
unfolding designator
designator-touches frame name name-in =
    bind-touches (called_function-touches frame name 0 name-in) (λ c. applied-touches name c.callee (unknown_at name) 0 name-in)

pub named_as-touches : {Q : ℕ → Type 0} {strict : Shown} (frame : ℕ) (name : ℕ) (m : Meaning) → Of Q name → Touches Q strict (named_as frame name m)
named_as-touches frame name (Meaning.Constant v) name-in = constant_at-touches name v name-in
named_as-touches frame name (Meaning.Bound r of') name-in = bound_at-touches name r of' name-in
named_as-touches frame name Meaning.Other name-in = designator-touches frame name name-in
named_as-touches frame name m name-in = accessed_as-touches name m name-in

pub name_factor-touches : {Q : ℕ → Type 0} {strict : Shown} (frame : ℕ) (name : ℕ) → Of Q name → Touches Q strict (name_factor frame name)
unfolding name_factor
name_factor-touches frame name name-in = bind-touches (use_again-touches frame name name-in) (λ found. bind-touches (look-touches
    (λ k. meaning_of k frame found)) (λ m. named_as-touches frame name m name-in))

pub root_name-touches : {Q : ℕ → Type 0} {strict : Shown} (frame : ℕ) (bool : Bool) (name : ℕ) → Of Q name → Touches Q strict (root_name frame bool name)
root_name-touches frame true name name-in = name_factor-touches frame name name-in
root_name-touches frame false name name-in = variable-touches frame name name-in

mutual
  pub expression-touches : {Q : ℕ → Type 0} {strict : Shown} (frame : ℕ) (expression' : ExpressionTree) → Every Q (expression_node expression')
      → Touches Q strict (expression frame expression')
  expression-touches frame (tree.an_expression left relation) expression-in = bind-touches (simple-touches frame left expression-in.0) (λ l.
      related-touches frame l relation expression-in.1)

  pub related-touches : {Q : ℕ → Type 0} {strict : Shown} (frame : ℕ) (l : Typed) (relation : RelationTree) → Every Q (relation_node relation)
      → Touches Q strict (related frame l relation)
  related-touches frame l tree.without_relation relation-in = give-touches l
  related-touches frame l (tree.a_relation operator right) relation-in = bind-touches (simple-touches frame right relation-in.1) (λ r.
      operated-touches (relational_operator operator) (relational_token operator) l r (relational_token-in operator relation-in.0))

  pub simple-touches : {Q : ℕ → Type 0} {strict : Shown} (frame : ℕ) (simple' : SimpleTree) → Every Q (simple_node simple')
      → Touches Q strict (simple frame simple')
  simple-touches frame (tree.a_simple sign first others) simple-in = bind-touches (term-touches frame first simple-in.1.0) (λ t.
      bind-touches (signed-touches sign t simple-in.0) (λ one. terms-touches frame one others simple-in.1.1))

  pub terms-touches : {Q : ℕ → Type 0} {strict : Shown} (frame : ℕ) (t : Typed) (next_term' : TermTrees) → Every Q (terms_node next_term')
      → Touches Q strict (terms frame t next_term')
  terms-touches frame t tree.end_of_terms next_term-in = give-touches t
  terms-touches frame t (tree.more_terms operator x rest) next_term-in =
      bind-touches (bind-touches (term-touches frame x next_term-in.0.1) (λ u.
      operated-touches (adding_operator operator) (adding_token operator) t u (adding_token-in operator next_term-in.0.0))) (λ u.
      terms-touches frame u rest next_term-in.1)

  pub term-touches : {Q : ℕ → Type 0} {strict : Shown} (frame : ℕ) (term' : TermTree) → Every Q (term_node term') → Touches Q strict (term frame term')
  term-touches frame (tree.a_term first others) term-in = bind-touches (factor-touches frame first term-in.0) (λ f. factors-touches frame f others term-in.1)

  pub factors-touches : {Q : ℕ → Type 0} {strict : Shown} (frame : ℕ) (f : Typed) (next_factor' : FactorTrees) → Every Q (factors_node next_factor')
      → Touches Q strict (factors frame f next_factor')
  factors-touches frame f tree.end_of_factors next_factor-in = give-touches f
  factors-touches frame f (tree.more_factors operator x rest) next_factor-in =
      bind-touches (bind-touches (factor-touches frame x next_factor-in.0.1) (λ g.
      operated-touches (multiplying_operator operator) (multiplying_token operator) f g (multiplying_token-in operator next_factor-in.0.0))) (λ h.
      factors-touches frame h rest next_factor-in.1)

  pub factor-touches : {Q : ℕ → Type 0} {strict : Shown} (frame : ℕ) (factor' : FactorTree) → Every Q (factor_node factor')
      → Touches Q strict (factor frame factor')
  factor-touches frame (tree.a_number token) factor-in = literal-touches token (Constant.Number None token) factor-in factor-in
  factor-touches frame (tree.a_text token) factor-in = literal-touches token (Constant.Text token) factor-in factor-in
  factor-touches frame (tree.a_nil token) factor-in = nil_at-touches token factor-in
  factor-touches frame (tree.an_access name selectors) factor-in = bind-touches (root_name-touches frame (is_name selectors) name factor-in.0) (λ one.
      selected-touches frame one selectors factor-in.1)
  factor-touches frame (tree.a_call name a) factor-in = call-touches frame name (count_of a) a factor-in.0 factor-in.1
  factor-touches frame (tree.a_paren open' e close) factor-in = bind-touches (expression-touches frame e factor-in.1.0) (λ v. give-touches (bracketed v))
  factor-touches frame (tree.a_set m) factor-in = constructor-touches frame m factor-in
  factor-touches frame (tree.a_not word f) factor-in = bind-touches (factor-touches frame f factor-in.1) (λ v. negated-touches word v factor-in.0)

  pub call-touches : {Q : ℕ → Type 0} {strict : Shown} (frame : ℕ) (name : ℕ) (count : ℕ) (arguments : ArgumentsTree) → Of Q name
      → Every Q (arguments_node arguments)
      → Touches Q strict (call frame name count arguments)
  call-touches {Q = Q} frame name count (tree.argument_list open' first others close) name-in arguments-in =
      bind-touches (called_function-touches frame name count name-in) (λ c. bind-touches (actual_by-touches frame (passing_to c name) open' (name_alone first)
      (first_of_expression first) (expression frame first) arguments-in.0 (name_alone-in Q first arguments-in.1.0)
      (first_of_expression-in first arguments-in.1.0)
      (expression-touches frame first arguments-in.1.0)) (λ one. bind-touches (more_arguments-touches frame one others arguments-in.1.1.0) (λ all.
      applied-touches name c.callee all.value open' name-in)))

  pub more_arguments-touches : {Q : ℕ → Type 0} {strict : Shown} (frame : ℕ) (p : Passing) (next_expression : ExpressionTrees)
      → Every Q (expressions_node next_expression) → Touches Q strict (more_arguments frame p next_expression)
  more_arguments-touches frame p tree.end_of_expressions next_expression-in = give-touches p
  more_arguments-touches {Q = Q} frame p (tree.more_expressions comma e rest) next_expression-in =
      let e-in = next_expression-in.0.1 in
      bind-touches (actual_by-touches frame p comma (name_alone e) (first_of_expression e) (expression frame e) next_expression-in.0.0 (name_alone-in Q e e-in)
      (first_of_expression-in e e-in) (expression-touches frame e e-in)) (λ next. more_arguments-touches frame next rest next_expression-in.1)

  pub selected-touches : {Q : ℕ → Type 0} {strict : Shown} (frame : ℕ) (p : Typed) (selector' : SelectorTrees) → Every Q (selectors_node selector')
      → Touches Q strict (selected frame p selector')
  selected-touches frame p tree.end_of_selectors selector-in = give-touches p
  selected-touches frame p (tree.more_selectors s rest) selector-in = bind-touches (selector-touches frame p s selector-in.0) (λ next.
      selected-touches frame next rest selector-in.1)

  pub selector-touches : {Q : ℕ → Type 0} {strict : Shown} (frame : ℕ) (p : Typed) (selector' : SelectorTree) → Every Q (selector_node selector')
      → Touches Q strict (selector frame p selector')
  selector-touches frame p (tree.an_index i) selector-in = index_at-touches frame p i selector-in
  selector-touches frame p (tree.a_field dot name) selector-in = selected_field-touches p dot name selector-in.0 selector-in.1
  selector-touches frame p (tree.a_caret caret) selector-in = dereferenced-touches p caret selector-in

  pub index_at-touches : {Q : ℕ → Type 0} {strict : Shown} (frame : ℕ) (p : Typed) (index : IndexTree) → Every Q (index_node index)
      → Touches Q strict (index_at frame p index)
  index_at-touches frame p (tree.index_list open' first others close) index-in =
      bind-touches (bind-touches (expression-touches frame first index-in.1.0) (λ i.
      indexed-touches p open' (first_of_expression first) i index-in.0 (first_of_expression-in first index-in.1.0))) (λ next.
      more_indexes-touches frame next others index-in.1.1.0)

  pub more_indexes-touches : {Q : ℕ → Type 0} {strict : Shown} (frame : ℕ) (p : Typed) (next_expression : ExpressionTrees)
      → Every Q (expressions_node next_expression) → Touches Q strict (more_indexes frame p next_expression)
  more_indexes-touches frame p tree.end_of_expressions next_expression-in = give-touches p
  more_indexes-touches frame p (tree.more_expressions comma e rest) next_expression-in =
      bind-touches (bind-touches (expression-touches frame e next_expression-in.0.1) (λ i.
      indexed-touches p comma (first_of_expression e) i next_expression-in.0.0 (first_of_expression-in e next_expression-in.0.1))) (λ next.
      more_indexes-touches frame next rest next_expression-in.1)

  pub constructor-touches : {Q : ℕ → Type 0} {strict : Shown} (frame : ℕ) (members : MembersTree) → Every Q (members_node members)
      → Touches Q strict (constructor frame members)
  constructor-touches frame (tree.empty_members open' close) members-in = set_constructor-touches (nothing_gathered close) 0 close members-in.1
  constructor-touches frame (tree.some_members open' first others close) members-in =
      bind-touches (member-touches frame (nothing_gathered close) open' first members-in.0 members-in.1.0) (λ one.
      bind-touches (more_members-touches frame one others members-in.1.1.0) (λ all. set_constructor-touches all open' close members-in.1.1.1))

  pub more_members-touches : {Q : ℕ → Type 0} {strict : Shown} (frame : ℕ) (g : Gathered) (next_member' : MemberTrees)
      → Every Q (more_members_node next_member') → Touches Q strict (more_members frame g next_member')
  more_members-touches frame g tree.end_of_members next_member-in = give-touches g
  more_members-touches frame g (tree.more_members comma m rest) next_member-in =
      bind-touches (member-touches frame g comma m next_member-in.0.0 next_member-in.0.1) (λ next. more_members-touches frame next rest next_member-in.1)

  pub member-touches : {Q : ℕ → Type 0} {strict : Shown} (frame : ℕ) (g : Gathered) (slot : ℕ) (member' : MemberTree) → Of Q slot
      → Every Q (member_node member')
      → Touches Q strict (member frame g slot member')
  member-touches frame g slot (tree.a_member first last) slot-in member-in =
      bind-touches (expression-touches frame first member-in.0) (λ v. range-touches frame g (record {
        slot = slot;
        first = first_of_expression first;
        value = v;
      }) last slot-in (first_of_expression-in first member-in.0) member-in.1)

  pub range-touches : {Q : ℕ → Type 0} {strict : Shown} (frame : ℕ) (g : Gathered) (b : MemberStart) (last : RangeTree) → Of Q b.slot → Of Q b.first
      → Every Q (range_end_node last) → Touches Q strict (range frame g b last)
  range-touches frame g b tree.without_range slot-in b-in last-in = one_member-touches g b slot-in b-in
  range-touches frame g b (tree.a_range dots last) slot-in b-in last-in =
      bind-touches (expression-touches frame last last-in.1) (λ v. member_range-touches g b v slot-in b-in)

pub actual-touches : {Q : ℕ → Type 0} {strict : Shown} (frame : ℕ) (p : Passing) (slot : ℕ) (e : ExpressionTree) → Of Q slot → Every Q (expression_node e)
    → Touches Q strict (actual frame p slot e)
actual-touches {Q = Q} frame p slot e slot-in e-in =
    actual_by-touches frame p slot (name_alone e) (first_of_expression e) (expression frame e) slot-in (name_alone-in Q
    e e-in) (first_of_expression-in e e-in) (expression-touches frame e e-in)

pub access-touches : {Q : ℕ → Type 0} {strict : Shown} (frame : ℕ) (a : AccessTree) → Every Q (access_node a) → Touches Q strict (access frame a)
access-touches frame a a-in = bind-touches (variable-touches frame a.name a-in.0) (λ one. selected-touches frame one a.selectors a-in.1)
