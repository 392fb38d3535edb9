-- What the steps of `Rattle.expression_checker.specs.Actuals` keep.
use Rattle.std.proofs.Common.{◌<◌, ℕ, Bool, None, Option, Some, false, refl}
use Rattle.core_program.specs.declared.rows.{ItemRow.ItemRow, TextFile.TextFile}
use Rattle.check_steps.specs.Steps.{Step}
use Rattle.kind_checker.specs.declared.shapes.ExpressionType.{ExpressionType}
use Rattle.expression_checker.specs.{Callees.callee_of, Typed.unknown_at, declared.typed.Typed.Typed}
use Rattle.expression_checker.specs.Actuals.{actual_by, argued, argued_as, file_argued, formal_at, formals_after, is_actual, is_congruous, is_input}
use Rattle.expression_checker.specs.Actuals.{is_of_section, item_if_any, item_of, lone_of, operand_in, passed, routine_argued, routine_item, rule_of, threat_by}
use Rattle.expression_checker.specs.declared.actuals.{Argument.Argument, ExpectedFormal.ExpectedFormal, Lone.Lone, Passing.Passing}
use Rattle.expression_checker.specs.declared.actuals.ExpectedFormal.TheVariants as formal
use Rattle.code_checker.proofs.{CheckItems.add_item-holds, CheckNames.use_again-holds, ExpressionThreats.threat_alone-holds, Within.Below}
use Rattle.code_checker.proofs.Parts.{LoneIn, lone_of-in, rule_of-told}
use Rattle.code_checker.proofs.Steps.{Holds, bind-holds, give-holds, late-holds, look-holds, looked-holds}

pub argued-holds : {size : ℕ} {later : Bool} (f : ExpectedFormal) (first : ℕ) (v : Typed) → first < size → Holds size later (argued f first v)
unfolding argued
argued-holds f first v first-in = bind-holds (look-holds (λ k. is_actual k f v)) (λ fine.
    bind-holds (late-holds (rule_of f) first fine (rule_of-told f) first-in) (λ _. bind-holds (look-holds (λ k. is_of_section k f v.of)) (λ one.
    bind-holds (late-holds 35 first one refl first-in) (λ _. give-holds (record { item = item_of f v; of = v.of; value = operand_in f v })))))

pub routine_argued-holds : {size : ℕ} {later : Bool} (frame : ℕ) (name : ℕ) (heading : ℕ) → name < size → Holds size later (routine_argued frame name heading)
unfolding routine_argued
routine_argued-holds frame name heading name-in = bind-holds (use_again-holds frame name name-in) (λ found. bind-holds (look-holds
    (λ k. callee_of k frame found)) (λ c. bind-holds (look-holds (λ k. is_congruous k heading c)) (λ fine. bind-holds (late-holds 29 name fine refl name-in)
    (λ _. give-holds (record { item = routine_item c; of = ExpressionType.Unknown; value = unknown_at name })))))

pub file_argued-holds : {size : ℕ} {later : Bool} (name : ℕ) (file : TextFile) → name < size → Holds size later (file_argued name file)
unfolding file_argued
file_argued-holds name file name-in = bind-holds (late-holds 32 name (is_input file) refl name-in) (λ _.
    give-holds (record { item = None; of = ExpressionType.Unknown; value = unknown_at name }))

pub argued_as-holds : {size : ℕ} {later : Bool} (frame : ℕ) (f : ExpectedFormal) (lone : Lone) (first : ℕ) (walk : Step Typed) → LoneIn size lone
    → first < size → Holds size later walk → Holds size later (argued_as frame f lone first walk)
argued_as-holds frame f Lone.None first walk lone-in first-in walk-in = bind-holds walk-in (λ v. argued-holds f first v first-in)
argued_as-holds frame f (Lone.Routine name heading) first walk lone-in first-in walk-in = routine_argued-holds frame name heading lone-in
argued_as-holds frame f (Lone.File name file) first walk lone-in first-in walk-in = file_argued-holds name file lone-in

pub threat_by-holds : {size : ℕ} {later : Bool} (frame : ℕ) (f : ExpectedFormal) (name : Option ℕ) → Below size name
    → Holds size later (threat_by frame f name)
threat_by-holds frame (formal.Variable of') name name-in = threat_alone-holds frame name name-in
threat_by-holds frame (formal.Array false first of' measure) name name-in = threat_alone-holds frame name name-in
threat_by-holds frame f name name-in = give-holds tt

pub item_if_any-holds : {size : ℕ} {later : Bool} (last : ℕ) (slot : ℕ) (x_item_row : Option ItemRow) → Holds size later (item_if_any last slot x_item_row)
item_if_any-holds last slot None = give-holds last
item_if_any-holds last slot (Some i) = add_item-holds last slot i

pub passed-holds : {size : ℕ} {later : Bool} (p : Passing) (slot : ℕ) (a : Argument) → Holds size later (passed p slot a)
unfolding passed
passed-holds p slot a = bind-holds (item_if_any-holds p.last slot a.item) (λ last. bind-holds (look-holds (λ k. formals_after k p.formals a.of)) (λ next.
    give-holds (record { last = last; formals = next; value = a.value })))

pub actual_by-holds : {size : ℕ} {later : Bool} (frame : ℕ) (p : Passing) (slot : ℕ) (name : Option ℕ) (first : ℕ) (walk : Step Typed) → Below size name
    → first < size → Holds size later walk → Holds size later (actual_by frame p slot name first walk)
unfolding actual_by
actual_by-holds {size = size} frame p slot name first walk name-in first-in walk-in = bind-holds (look-holds (λ k. formal_at k p.formals)) (λ f.
    bind-holds (threat_by-holds frame f name name-in) (λ _. looked-holds (LoneIn size) (λ k. lone_of k frame f name)
    (λ k t. lone_of-in size k frame f name name-in) (λ l l-in. bind-holds (argued_as-holds frame f l first walk l-in first-in (walk-in)) (λ a.
    passed-holds p slot a))))
