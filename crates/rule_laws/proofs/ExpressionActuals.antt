-- What the steps of `Rattle.expression_checker.specs.Actuals` touch.
use Rattle.std.proofs.Common.{ℕ, None, Option, Some, false, refl}
use Rattle.core_program.specs.declared.rows.{ItemRow.ItemRow, TextFile.TextFile}
use Rattle.check_steps.specs.Steps.{Step}
use Rattle.kind_checker.specs.declared.shapes.ExpressionType.{ExpressionType}
use Rattle.expression_checker.specs.{Callees.callee_of, Typed.unknown_at, declared.typed.Typed.Typed}
use Rattle.expression_checker.specs.Actuals.{actual_by, argued, argued_as, file_argued, formal_at, formals_after, is_actual, is_congruous, is_input}
use Rattle.expression_checker.specs.Actuals.{is_of_section, item_if_any, item_of, lone_of, operand_in, passed, routine_argued, routine_item, rule_of, threat_by}
use Rattle.expression_checker.specs.declared.actuals.{Argument.Argument, ExpectedFormal.ExpectedFormal, Lone.Lone, Passing.Passing}
use Rattle.expression_checker.specs.declared.actuals.ExpectedFormal.TheVariants as formal
use Rattle.rule_laws.proofs.{CheckItems.add_item-touches, CheckNames.use_again-touches, Every.Below, Every.Of, ExpressionThreats.threat_alone-touches}
use Rattle.rule_laws.proofs.{Faces.Shown, Parts.LoneIn, Parts.lone_of-in, Parts.rule_of-quiet}
use Rattle.rule_laws.proofs.Touches.{Touches, bind-touches, give-touches, late-touches, look-touches, looked-touches}

pub argued-touches : {Q : ℕ → Type 0} {strict : Shown} (f : ExpectedFormal) (first : ℕ) (v : Typed) → Of Q first → Touches Q strict (argued f first v)
unfolding argued
argued-touches f first v first-in = bind-touches (look-touches (λ k. is_actual k f v)) (λ fine.
    bind-touches (late-touches (rule_of f) first fine (rule_of-quiet f) first-in) (λ _. bind-touches (look-touches (λ k. is_of_section k f v.of)) (λ one.
    bind-touches (late-touches 35 first one refl first-in) (λ _. give-touches (record { item = item_of f v; of = v.of; value = operand_in f v })))))

pub routine_argued-touches : {Q : ℕ → Type 0} {strict : Shown} (frame : ℕ) (name : ℕ) (heading : ℕ) → Of Q name
    → Touches Q strict (routine_argued frame name heading)
unfolding routine_argued
routine_argued-touches frame name heading name-in = bind-touches (use_again-touches frame name name-in) (λ found. bind-touches (look-touches
    (λ k. callee_of k frame found)) (λ c. bind-touches (look-touches (λ k. is_congruous k heading c))
    (λ fine. bind-touches (late-touches 29 name fine refl name-in)
    (λ _. give-touches (record { item = routine_item c; of = ExpressionType.Unknown; value = unknown_at name })))))

pub file_argued-touches : {Q : ℕ → Type 0} {strict : Shown} (name : ℕ) (file : TextFile) → Of Q name → Touches Q strict (file_argued name file)
unfolding file_argued
file_argued-touches name file name-in = bind-touches (late-touches 32 name (is_input file) refl name-in) (λ _.
    give-touches (record { item = None; of = ExpressionType.Unknown; value = unknown_at name }))

pub argued_as-touches : {Q : ℕ → Type 0} {strict : Shown} (frame : ℕ) (f : ExpectedFormal) (lone : Lone) (first : ℕ) (walk : Step Typed) → LoneIn Q lone
    → Of Q first → Touches Q strict walk → Touches Q strict (argued_as frame f lone first walk)
argued_as-touches frame f Lone.None first walk lone-in first-in walk-in = bind-touches walk-in (λ v. argued-touches f first v first-in)
argued_as-touches frame f (Lone.Routine name heading) first walk lone-in first-in walk-in = routine_argued-touches frame name heading lone-in
argued_as-touches frame f (Lone.File name file) first walk lone-in first-in walk-in = file_argued-touches name file lone-in

pub threat_by-touches : {Q : ℕ → Type 0} {strict : Shown} (frame : ℕ) (f : ExpectedFormal) (name : Option ℕ) → Below Q name
    → Touches Q strict (threat_by frame f name)
threat_by-touches frame (formal.Variable of') name name-in = threat_alone-touches frame name name-in
threat_by-touches frame (formal.Array false first of' measure) name name-in = threat_alone-touches frame name name-in
threat_by-touches frame f name name-in = give-touches tt

pub item_if_any-touches : {Q : ℕ → Type 0} {strict : Shown} (last : ℕ) (slot : ℕ) (x_item_row : Option ItemRow) → Of Q slot
    → Touches Q strict (item_if_any last slot x_item_row)
item_if_any-touches last slot None slot-in = give-touches last
item_if_any-touches last slot (Some i) slot-in = add_item-touches last slot i slot-in

pub passed-touches : {Q : ℕ → Type 0} {strict : Shown} (p : Passing) (slot : ℕ) (a : Argument) → Of Q slot → Touches Q strict (passed p slot a)
unfolding passed
passed-touches p slot a slot-in = bind-touches (item_if_any-touches p.last slot a.item slot-in)
    (λ last. bind-touches (look-touches (λ k. formals_after k p.formals a.of)) (λ next.
    give-touches (record { last = last; formals = next; value = a.value })))

pub actual_by-touches : {Q : ℕ → Type 0} {strict : Shown} (frame : ℕ) (p : Passing) (slot : ℕ) (name : Option ℕ) (first : ℕ) (walk : Step Typed) → Of Q slot
    → Below Q name
    → Of Q first → Touches Q strict walk → Touches Q strict (actual_by frame p slot name first walk)
unfolding actual_by
actual_by-touches {Q = Q} frame p slot name first walk slot-in name-in first-in walk-in = bind-touches (look-touches (λ k. formal_at k p.formals)) (λ f.
    bind-touches (threat_by-touches frame f name name-in) (λ _. looked-touches (LoneIn Q) (λ k. lone_of k frame f name)
    (λ k. lone_of-in Q k frame f name name-in) (λ l l-in. bind-touches (argued_as-touches frame f l first walk l-in first-in (walk-in)) (λ a.
    passed-touches p slot a slot-in))))
