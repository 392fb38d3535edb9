-- What the steps of `Rattle.statement_checker.specs.Assignments` touch.
use Rattle.std.proofs.Common.{◌≡◌, ℕ, false, refl}
use Rattle.core_program.specs.declared.rows.{AccessRow.AccessRow, Row.Row, StatementRow.StatementRow}
use Rattle.kind_checker.specs.declared.shapes.ExpressionType.{ExpressionType}
use Rattle.expression_checker.specs.{Selectors.type_number, Typed.unknown_at, declared.typed.Location.Location, declared.typed.Typed.Typed}
use Rattle.statement_checker.specs.Assignments.{assigned, blockless_target, is_inside, result_assigned, result_target, takes, with_value}
use Rattle.statement_checker.specs.declared.assignments.FunctionResult.{FunctionResult}
use Rattle.rule_laws.proofs.{Every.Of, Faces.Shown, Faces.value_shows, StatementSequences.stated-touches}
use Rattle.rule_laws.proofs.Touches.{Touches, bind-touches, changed-touches, give-touches, late-touches, look-touches, put-touches, when-touches}

pub result_assigned-touches : {Q : ℕ → Type 0} {strict : Shown} → strict.results ≡ false → (name : ℕ) → Touches Q strict (result_assigned name)
unfolding result_assigned
result_assigned-touches {strict = strict} lax name = changed-touches name with_value (value_shows strict lax)

pub result_target-touches : {Q : ℕ → Type 0} {strict : Shown} → strict.results ≡ false → (frame : ℕ) (name : ℕ) (r : FunctionResult) → Of Q name
    → Touches Q strict (result_target frame name r)
unfolding result_target
result_target-touches lax frame name r name-in = bind-touches (look-touches (λ k. is_inside k frame r.function)) (λ fine.
    bind-touches (late-touches 13 name fine refl name-in) (λ _. bind-touches (when-touches fine (result_assigned-touches lax r.function)) (λ _.
    bind-touches (put-touches name (Row.Access (AccessRow.Variable r.place r.levels r.of)) name-in refl) (λ _.
    give-touches (record { row = name; of = ExpressionType.Of r.of; location = Location.Variable })))))

pub blockless_target-touches : {Q : ℕ → Type 0} {strict : Shown} (name : ℕ) → Of Q name → Touches Q strict (blockless_target name)
unfolding blockless_target
blockless_target-touches name name-in = bind-touches (late-touches 13 name false refl name-in) (λ _. give-touches (unknown_at name))

pub assigned-touches : {Q : ℕ → Type 0} {strict : Shown} (line : ℕ) (becomes : ℕ) (to : Typed) (value : Typed) → Of Q becomes
    → Touches Q strict (assigned line becomes to value)
unfolding assigned
assigned-touches line becomes to value becomes-in = bind-touches (look-touches (λ k. takes k to.of value.of)) (λ fine.
    bind-touches (late-touches 18 becomes fine refl becomes-in) (λ _. stated-touches becomes (StatementRow.Assign line to.row value.row (type_number to.of))
    becomes-in))
