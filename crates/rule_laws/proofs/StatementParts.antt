-- What the steps of `Rattle.statement_checker.specs.Parts` touch.
use Rattle.std.proofs.Common.{◌≡◌, ℕ, None, Option, Some, false}
use Rattle.pas_tree.specs.{ExpressionPlaces.first_of_expression, Operators.direction_node, declared.operators.Direction.Direction}
use Rattle.pas_tree.specs.ExpressionTrees.{AccessTree, ExpressionTree}
use Rattle.pas_tree.specs.StatementTrees.{ActualTree, ActualsTree, AssignmentTree, NextAccessTree, NextActualTree}
use Rattle.pas_tree.specs.TreeNodes.{access_node, actual_node, actuals_node, assignment_node, call_node, expression_node, next_access_node, next_actual_node}
use Rattle.expression_checker.specs.{Expressions.passing_to, NamesAlone.access_name, NamesAlone.is_name}
use Rattle.expression_checker.specs.declared.{actuals.Passing.Passing, callees.Callee.Callee}
use Rattle.statement_checker.specs.{Assignments.target_at, Parts.target_as, Sequences.line_of}
use Rattle.statement_checker.specs.Parts.{actuals_in, another_passed, another_record, assigned_to, assignment, bounded, call_alone, call_as, call_statement}
use Rattle.statement_checker.specs.Parts.{call_with, condition_row, declared_call, first_record, for_begins, for_ends, passed_actual, selected, target_access}
use Rattle.statement_checker.specs.declared.{assignments.Target.Target, loops.Control.Control, parts.ForBounds.ForBounds, parts.Opened.Opened}
use Rattle.rule_laws.proofs.{Every.Every, Every.Of, ExpressionCallees.count_checked-touches, ExpressionThreats.threat_alone-touches, Faces.Shown}
use Rattle.rule_laws.proofs.{Parts.access_name-in, StatementActuals.no_width-touches, StatementCalls.call_row-touches, StatementCalls.procedure_at-touches}
use Rattle.rule_laws.proofs.{StatementChoices.selector-touches, StatementConditions.condition-touches, StatementProcedures.required_call-touches}
use Rattle.rule_laws.proofs.{StatementRecords.inside_record-touches, StatementSequences.add_element-touches, TokenPlaces.first_of_expression-in}
use Rattle.rule_laws.proofs.ExpressionExpressions.{access-touches, actual-touches, expression-touches}
use Rattle.rule_laws.proofs.StatementAssignments.{assigned-touches, blockless_target-touches, result_target-touches}
use Rattle.rule_laws.proofs.StatementLoops.{bound-touches, enter_for-touches, for_row-touches, leave_for-touches, put_turns-touches}
use Rattle.rule_laws.proofs.Touches.{Touches, bind-touches, each-touches, give-touches, look-touches}

pub condition_row-touches : {Q : ℕ → Type 0} {strict : Shown} (frame : ℕ) (e : ExpressionTree) → Every Q (expression_node e)
    → Touches Q strict (condition_row frame e)
unfolding condition_row
condition_row-touches frame e e-in = bind-touches (expression-touches frame e e-in) (λ v.
    bind-touches (condition-touches (first_of_expression e) v (first_of_expression-in e e-in)) (λ _. give-touches v.row))

pub bounded-touches : {Q : ℕ → Type 0} {strict : Shown} (frame : ℕ) (c : Control) (e : ExpressionTree) → Every Q (expression_node e)
    → Touches Q strict (bounded frame c e)
unfolding bounded
bounded-touches frame c e e-in = bind-touches (expression-touches frame e e-in) (λ v.
    bind-touches (bound-touches c (first_of_expression e) v (first_of_expression-in e e-in)) (λ _. give-touches v.row))

pub for_begins-touches : {Q : ℕ → Type 0} {strict : Shown} (frame : ℕ) (name : ℕ) (initial : ExpressionTree) (last : ExpressionTree) → Of Q name
    → Every Q (expression_node initial) → Every Q (expression_node last) → Touches Q strict (for_begins frame name initial last)
unfolding for_begins
for_begins-touches frame name initial last name-in initial-in last-in = bind-touches (enter_for-touches frame name name-in) (λ c.
    bind-touches (bounded-touches frame c initial initial-in) (λ from. bind-touches (bounded-touches frame c last last-in) (λ to.
    give-touches (record { control = c; initial = from; last = to }))))

pub for_ends-touches : {Q : ℕ → Type 0} {strict : Shown} (label : Option ℕ) (word : ℕ) (direction : Direction) (b : ForBounds) (body : ℕ) → Of Q word
    → Every Q (direction_node direction) → Touches Q strict (for_ends label word direction b body)
unfolding for_ends
for_ends-touches label word direction b body word-in direction-in = bind-touches (leave_for-touches b.control) (λ _.
    bind-touches (put_turns-touches direction b.last b.control body direction-in) (λ turns. for_row-touches label word b.initial turns word-in))

pub selected-touches : {Q : ℕ → Type 0} {strict : Shown} (frame : ℕ) (of' : ℕ) (e : ExpressionTree) → Every Q (expression_node e)
    → Touches Q strict (selected frame of' e)
unfolding selected
selected-touches frame of' e e-in = bind-touches (expression-touches frame e e-in) (λ v.
    bind-touches (selector-touches frame of' (first_of_expression e) v (first_of_expression-in e e-in))
    (λ c. give-touches (record { choosing = c; row = v.row })))

pub target_access-touches : {Q : ℕ → Type 0} {strict : Shown} (frame : ℕ) (a : AccessTree) → Every Q (access_node a) → Touches Q strict (target_access frame a)
unfolding target_access
target_access-touches {Q = Q} frame a a-in = bind-touches (threat_alone-touches frame (access_name a) (access_name-in Q a a-in)) (λ _.
    access-touches frame a a-in)

pub target_as-touches : {Q : ℕ → Type 0} {strict : Shown} → strict.results ≡ false → (frame : ℕ) (a : AccessTree) (x_target : Target) → Every Q (access_node a)
    → Touches Q strict (target_as frame a x_target)
target_as-touches lax frame a Target.Access a-in = target_access-touches frame a a-in
target_as-touches lax frame a (Target.Result r) a-in = result_target-touches lax frame a.name r a-in.0
target_as-touches lax frame a Target.Blockless a-in = blockless_target-touches a.name a-in.0

pub assigned_to-touches : {Q : ℕ → Type 0} {strict : Shown} → strict.results ≡ false → (frame : ℕ) (a : AccessTree) → Every Q (access_node a)
    → Touches Q strict (assigned_to frame a)
unfolding assigned_to
assigned_to-touches lax frame a a-in = bind-touches (look-touches (λ k. target_at k frame a.name (is_name a.selectors))) (λ t.
    target_as-touches lax frame a t a-in)

pub assignment-touches : {Q : ℕ → Type 0} {strict : Shown} → strict.results ≡ false → (frame : ℕ) (label : Option ℕ) (a : AssignmentTree)
    → Every Q (assignment_node a) → Touches Q strict (assignment frame label a)
unfolding assignment
assignment-touches lax frame label a a-in = bind-touches (assigned_to-touches lax frame a.target (a-in.0, a-in.1.0)) (λ to.
    bind-touches (expression-touches frame a.value a-in.1.1.1) (λ v. bind-touches (look-touches (λ k. line_of k label a.target.name)) (λ line.
    assigned-touches line a.becomes to v a-in.1.1.0)))

pub passed_actual-touches : {Q : ℕ → Type 0} {strict : Shown} (frame : ℕ) (p : Passing) (slot : ℕ) (a : ActualTree) → Of Q slot → Every Q (actual_node a)
    → Touches Q strict (passed_actual frame p slot a)
unfolding passed_actual
passed_actual-touches frame p slot a slot-in a-in = bind-touches (actual-touches frame p slot a.expression slot-in a-in.0)
    (λ next. bind-touches (no_width-touches frame a.width a-in.1)
    (λ _. give-touches next))

pub another_passed-touches : {Q : ℕ → Type 0} {strict : Shown} (frame : ℕ) (p : Passing) (n : NextActualTree) → Every Q (next_actual_node n)
    → Touches Q strict (another_passed frame p n)
another_passed-touches frame p n n-in = passed_actual-touches frame p n.comma n.actual n-in.0 n-in.1

pub call_with-touches : {Q : ℕ → Type 0} {strict : Shown} (frame : ℕ) (line : ℕ) (name : ℕ) (c : Callee) (a : ActualsTree) → Of Q name
    → Every Q (actuals_node a)
    → Touches Q strict (call_with frame line name c a)
unfolding call_with
call_with-touches frame line name c a name-in a-in = bind-touches (count_checked-touches name c (actuals_in a) name-in) (λ called.
    bind-touches (passed_actual-touches frame (passing_to called name) a.left a.first a-in.0 a-in.1.0) (λ one.
    bind-touches (each-touches (another_passed frame) next_actual_node (λ a x h. another_passed-touches frame a x h) one a.others a-in.1.1.0) (λ _.
    call_row-touches line name called.callee a.left name-in)))

pub call_alone-touches : {Q : ℕ → Type 0} {strict : Shown} (line : ℕ) (name : ℕ) (c : Callee) → Of Q name → Touches Q strict (call_alone line name c)
unfolding call_alone
call_alone-touches line name c name-in = bind-touches (count_checked-touches name c 0 name-in) (λ called. call_row-touches line name called.callee 0 name-in)

pub declared_call-touches : {Q : ℕ → Type 0} {strict : Shown} (frame : ℕ) (line : ℕ) (name : ℕ) (c : Callee) (actuals : Option ActualsTree) → Of Q name
    → Every Q (call_node actuals) → Touches Q strict (declared_call frame line name c actuals)
declared_call-touches frame line name c None name-in actuals-in = call_alone-touches line name c name-in
declared_call-touches frame line name c (Some a) name-in actuals-in = call_with-touches frame line name c a name-in actuals-in

pub call_as-touches : {Q : ℕ → Type 0} {strict : Shown} (frame : ℕ) (line : ℕ) (name : ℕ) (c : Callee) (actuals : Option ActualsTree) → Of Q name
    → Every Q (call_node actuals) → Touches Q strict (call_as frame line name c actuals)
call_as-touches frame line name (Callee.Required r) actuals name-in actuals-in =
    required_call-touches r frame (record { name = name; line = line }) actuals name-in actuals-in
call_as-touches frame line name c actuals name-in actuals-in = declared_call-touches frame line name c actuals name-in actuals-in

pub call_statement-touches : {Q : ℕ → Type 0} {strict : Shown} (frame : ℕ) (label : Option ℕ) (name : ℕ) (actuals : Option ActualsTree) → Of Q name
    → Every Q (call_node actuals) → Touches Q strict (call_statement frame label name actuals)
unfolding call_statement
call_statement-touches frame label name actuals name-in actuals-in = bind-touches (procedure_at-touches frame name name-in) (λ c. bind-touches (look-touches
    (λ k. line_of k label name)) (λ line. call_as-touches frame line name c actuals name-in actuals-in))

pub first_record-touches : {Q : ℕ → Type 0} {strict : Shown} → strict.frames ≡ false → (frame : ℕ) (word : ℕ) (a : AccessTree) → Every Q (access_node a)
    → Touches Q strict (first_record frame word a)
unfolding first_record
first_record-touches lax frame word a a-in = bind-touches (access-touches frame a a-in) (λ v.
    bind-touches (inside_record-touches lax frame a.name v a-in.0) (λ inner.
    give-touches (record { frame = inner; last = record { slot = word; item = v.row } })))

pub another_record-touches : {Q : ℕ → Type 0} {strict : Shown} → strict.frames ≡ false → (o : Opened) (n : NextAccessTree) → Of Q o.last.slot
    → Every Q (next_access_node n) → Touches Q strict (another_record o n)
unfolding another_record
another_record-touches lax o n slot-in n-in = bind-touches (access-touches o.frame n.access n-in.1)
    (λ v. bind-touches (inside_record-touches lax o.frame n.access.name v n-in.1.0)
    (λ inner. bind-touches (add_element-touches o.last n.comma v.row slot-in) (λ last. give-touches (record { frame = inner; last = last }))))
