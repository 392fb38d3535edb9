-- What the steps of `Rattle.statement_checker.specs.Parts` keep.
use Rattle.std.proofs.Common.{◌<◌, ℕ, Bool, None, Option, Some}
use Rattle.grammar.specs.Nodes.{row}
use Rattle.pas_tree.specs.{ExpressionPlaces.first_of_expression, Operators.direction_node, declared.operators.Direction.Direction}
use Rattle.pas_tree.specs.ExpressionTrees.{AccessTree, ExpressionTree}
use Rattle.pas_tree.specs.StatementTrees.{ActualTree, ActualsTree, AssignmentTree, NextAccessTree, NextActualTree}
use Rattle.pas_tree.specs.TreeNodes.{access_node, actual_node, actuals_node, assignment_node, call_node, expression_node, next_access_node, next_actual_node}
use Rattle.expression_checker.specs.{Expressions.passing_to, NamesAlone.access_name, NamesAlone.is_name}
use Rattle.expression_checker.specs.declared.{actuals.Passing.Passing, callees.Callee.Callee}
use Rattle.statement_checker.specs.{Assignments.target_at, Parts.target_as, Sequences.line_of}
use Rattle.statement_checker.specs.Parts.{actuals_in, another_passed, another_record, assigned_to, assignment, bounded, call_alone, call_as, call_statement}
use Rattle.statement_checker.specs.Parts.{call_with, condition_row, declared_call, first_record, for_begins, for_ends, passed_actual, selected, target_access}
use Rattle.statement_checker.specs.declared.{assignments.Target.Target, loops.Control.Control, parts.ForBounds.ForBounds, parts.Opened.Opened}
use Rattle.code_checker.proofs.{ExpressionCallees.count_checked-holds, ExpressionThreats.threat_alone-holds, Parts.access_name-in}
use Rattle.code_checker.proofs.{StatementActuals.no_width-holds, StatementCalls.call_row-holds, StatementCalls.procedure_at-holds}
use Rattle.code_checker.proofs.{StatementChoices.selector-holds, StatementConditions.condition-holds, StatementProcedures.required_call-holds}
use Rattle.code_checker.proofs.{StatementRecords.inside_record-holds, StatementSequences.add_element-holds, TokenPlaces.first_of_expression-in, Within.Within}
use Rattle.code_checker.proofs.ExpressionExpressions.{access-holds, actual-holds, expression-holds}
use Rattle.code_checker.proofs.StatementAssignments.{assigned-holds, blockless_target-holds, result_target-holds}
use Rattle.code_checker.proofs.StatementLoops.{bound-holds, enter_for-holds, for_row-holds, leave_for-holds, put_turns-holds}
use Rattle.code_checker.proofs.Steps.{Holds, bind-holds, each-holds, give-holds, look-holds}

pub condition_row-holds : {size : ℕ} {later : Bool} (frame : ℕ) (e : ExpressionTree) → Within size (expression_node e)
    → Holds size later (condition_row frame e)
unfolding condition_row
condition_row-holds frame e e-in = bind-holds (expression-holds frame e e-in) (λ v.
    bind-holds (condition-holds (first_of_expression e) v (first_of_expression-in e e-in)) (λ _. give-holds v.row))

pub bounded-holds : {size : ℕ} {later : Bool} (frame : ℕ) (c : Control) (e : ExpressionTree) → Within size (expression_node e)
    → Holds size later (bounded frame c e)
unfolding bounded
bounded-holds frame c e e-in = bind-holds (expression-holds frame e e-in) (λ v.
    bind-holds (bound-holds c (first_of_expression e) v (first_of_expression-in e e-in)) (λ _. give-holds v.row))

pub for_begins-holds : {size : ℕ} {later : Bool} (frame : ℕ) (name : ℕ) (initial : ExpressionTree) (last : ExpressionTree) → name < size
    → Within size (expression_node initial) → Within size (expression_node last) → Holds size later (for_begins frame name initial last)
unfolding for_begins
for_begins-holds frame name initial last name-in initial-in last-in = bind-holds (enter_for-holds frame name name-in) (λ c.
    bind-holds (bounded-holds frame c initial initial-in) (λ from. bind-holds (bounded-holds frame c last last-in) (λ to.
    give-holds (record { control = c; initial = from; last = to }))))

pub for_ends-holds : {size : ℕ} {later : Bool} (label : Option ℕ) (word : ℕ) (direction : Direction) (b : ForBounds) (body : ℕ)
    → Within size (direction_node direction) → Holds size later (for_ends label word direction b body)
unfolding for_ends
for_ends-holds label word direction b body direction-in = bind-holds (leave_for-holds b.control) (λ _.
    bind-holds (put_turns-holds direction b.last b.control body direction-in) (λ turns. for_row-holds label word b.initial turns))

pub selected-holds : {size : ℕ} {later : Bool} (frame : ℕ) (of' : ℕ) (e : ExpressionTree) → Within size (expression_node e)
    → Holds size later (selected frame of' e)
unfolding selected
selected-holds frame of' e e-in = bind-holds (expression-holds frame e e-in) (λ v.
    bind-holds (selector-holds frame of' (first_of_expression e) v (first_of_expression-in e e-in)) (λ c. give-holds (record { choosing = c; row = v.row })))

pub target_access-holds : {size : ℕ} {later : Bool} (frame : ℕ) (a : AccessTree) → Within size (access_node a) → Holds size later (target_access frame a)
unfolding target_access
target_access-holds {size = size} frame a a-in = bind-holds (threat_alone-holds frame (access_name a) (access_name-in size a a-in)) (λ _.
    access-holds frame a a-in)

pub target_as-holds : {size : ℕ} {later : Bool} (frame : ℕ) (a : AccessTree) (x_target : Target) → Within size (access_node a)
    → Holds size later (target_as frame a x_target)
target_as-holds frame a Target.Access a-in = target_access-holds frame a a-in
target_as-holds frame a (Target.Result r) a-in = result_target-holds frame a.name r a-in.0
target_as-holds frame a Target.Blockless a-in = blockless_target-holds a.name a-in.0

pub assigned_to-holds : {size : ℕ} {later : Bool} (frame : ℕ) (a : AccessTree) → Within size (access_node a) → Holds size later (assigned_to frame a)
unfolding assigned_to
assigned_to-holds frame a a-in = bind-holds (look-holds (λ k. target_at k frame a.name (is_name a.selectors))) (λ t.
    target_as-holds frame a t a-in)

pub assignment-holds : {size : ℕ} {later : Bool} (frame : ℕ) (label : Option ℕ) (a : AssignmentTree) → Within size (assignment_node a)
    → Holds size later (assignment frame label a)
unfolding assignment
assignment-holds frame label a a-in = bind-holds (assigned_to-holds frame a.target (a-in.0, a-in.1.0)) (λ to.
    bind-holds (expression-holds frame a.value a-in.1.1.1) (λ v. bind-holds (look-holds (λ k. line_of k label a.target.name)) (λ line.
    assigned-holds line a.becomes to v a-in.1.1.0)))

pub passed_actual-holds : {size : ℕ} {later : Bool} (frame : ℕ) (p : Passing) (slot : ℕ) (a : ActualTree) → Within size (actual_node a)
    → Holds size later (passed_actual frame p slot a)
unfolding passed_actual
passed_actual-holds frame p slot a a-in = bind-holds (actual-holds frame p slot a.expression a-in.0) (λ next. bind-holds (no_width-holds frame a.width a-in.1)
    (λ _. give-holds next))

pub another_passed-holds : {size : ℕ} {later : Bool} (frame : ℕ) (p : Passing) (n : NextActualTree) → Within size (next_actual_node n)
    → Holds size later (another_passed frame p n)
another_passed-holds frame p n n-in = passed_actual-holds frame p n.comma n.actual n-in.1

pub call_with-holds : {size : ℕ} {later : Bool} (frame : ℕ) (line : ℕ) (name : ℕ) (c : Callee) (a : ActualsTree) → name < size → Within size (actuals_node a)
    → Holds size later (call_with frame line name c a)
unfolding call_with
call_with-holds frame line name c a name-in a-in = bind-holds (count_checked-holds name c (actuals_in a) name-in) (λ called.
    bind-holds (passed_actual-holds frame (passing_to called name) a.left a.first a-in.1.0) (λ one.
    bind-holds (each-holds (another_passed frame) next_actual_node (λ a x h. another_passed-holds frame a x h) one a.others a-in.1.1.0) (λ _.
    call_row-holds line name called.callee a.left)))

pub call_alone-holds : {size : ℕ} {later : Bool} (line : ℕ) (name : ℕ) (c : Callee) → name < size → Holds size later (call_alone line name c)
unfolding call_alone
call_alone-holds line name c name-in = bind-holds (count_checked-holds name c 0 name-in) (λ called. call_row-holds line name called.callee 0)

pub declared_call-holds : {size : ℕ} {later : Bool} (frame : ℕ) (line : ℕ) (name : ℕ) (c : Callee) (actuals : Option ActualsTree) → name < size
    → Within size (call_node actuals) → Holds size later (declared_call frame line name c actuals)
declared_call-holds frame line name c None name-in actuals-in = call_alone-holds line name c name-in
declared_call-holds frame line name c (Some a) name-in actuals-in = call_with-holds frame line name c a name-in actuals-in

pub call_as-holds : {size : ℕ} {later : Bool} (frame : ℕ) (line : ℕ) (name : ℕ) (c : Callee) (actuals : Option ActualsTree) → name < size
    → Within size (call_node actuals) → Holds size later (call_as frame line name c actuals)
call_as-holds frame line name (Callee.Required r) actuals name-in actuals-in =
    required_call-holds r frame (record { name = name; line = line }) actuals name-in actuals-in
call_as-holds frame line name c actuals name-in actuals-in = declared_call-holds frame line name c actuals name-in actuals-in

pub call_statement-holds : {size : ℕ} {later : Bool} (frame : ℕ) (label : Option ℕ) (name : ℕ) (actuals : Option ActualsTree) → name < size
    → Within size (call_node actuals) → Holds size later (call_statement frame label name actuals)
unfolding call_statement
call_statement-holds frame label name actuals name-in actuals-in = bind-holds (procedure_at-holds frame name name-in) (λ c. bind-holds (look-holds
    (λ k. line_of k label name)) (λ line. call_as-holds frame line name c actuals name-in actuals-in))

pub first_record-holds : {size : ℕ} {later : Bool} (frame : ℕ) (word : ℕ) (a : AccessTree) → Within size (access_node a)
    → Holds size later (first_record frame word a)
unfolding first_record
first_record-holds frame word a a-in = bind-holds (access-holds frame a a-in) (λ v. bind-holds (inside_record-holds frame a.name v a-in.0) (λ inner.
    give-holds (record { frame = inner; last = record { slot = word; item = v.row } })))

pub another_record-holds : {size : ℕ} {later : Bool} (o : Opened) (n : NextAccessTree) → Within size (next_access_node n)
    → Holds size later (another_record o n)
unfolding another_record
another_record-holds o n n-in = bind-holds (access-holds o.frame n.access n-in.1) (λ v. bind-holds (inside_record-holds o.frame n.access.name v n-in.1.0)
    (λ inner. bind-holds (add_element-holds o.last n.comma v.row) (λ last. give-holds (record { frame = inner; last = last }))))
