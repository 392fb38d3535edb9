-- What the steps of `Rattle.statement_checker.specs.Assignments` keep.
use Rattle.std.proofs.Common.{◌<◌, ℕ, Bool, false, refl}
use Rattle.grammar.specs.Nodes.{row}
use Rattle.core_program.specs.declared.rows.{AccessRow.AccessRow, Row.Row, StatementRow.StatementRow}
use Rattle.check_steps.specs.Known.{row_at}
use Rattle.kind_checker.specs.declared.shapes.ExpressionType.{ExpressionType}
use Rattle.expression_checker.specs.{Selectors.type_number, Typed.unknown_at, declared.typed.Location.Location, declared.typed.Typed.Typed}
use Rattle.statement_checker.specs.Assignments.{assigned, blockless_target, is_inside, result_assigned, result_target, takes, with_value}
use Rattle.statement_checker.specs.declared.assignments.FunctionResult.{FunctionResult}
use Rattle.code_checker.proofs.StatementSequences.{stated-holds}
use Rattle.code_checker.proofs.Steps.{Holds, bind-holds, give-holds, late-holds, look-holds, put-holds, when-holds}

pub result_assigned-holds : {size : ℕ} {later : Bool} (name : ℕ) → Holds size later (result_assigned name)
unfolding result_assigned
result_assigned-holds name = bind-holds (look-holds (λ k. with_value (row_at k name))) (λ r. put-holds name r)

pub result_target-holds : {size : ℕ} {later : Bool} (frame : ℕ) (name : ℕ) (r : FunctionResult) → name < size → Holds size later (result_target frame name r)
unfolding result_target
result_target-holds frame name r name-in = bind-holds (look-holds (λ k. is_inside k frame r.function)) (λ fine.
    bind-holds (late-holds 13 name fine refl name-in) (λ _. bind-holds (when-holds fine (result_assigned-holds r.function)) (λ _.
    bind-holds (put-holds name (Row.Access (AccessRow.Variable r.place r.levels r.of))) (λ _.
    give-holds (record { row = name; of = ExpressionType.Of r.of; location = Location.Variable })))))

pub blockless_target-holds : {size : ℕ} {later : Bool} (name : ℕ) → name < size → Holds size later (blockless_target name)
unfolding blockless_target
blockless_target-holds name name-in = bind-holds (late-holds 13 name false refl name-in) (λ _. give-holds (unknown_at name))

pub assigned-holds : {size : ℕ} {later : Bool} (line : ℕ) (becomes : ℕ) (to : Typed) (value : Typed) → becomes < size
    → Holds size later (assigned line becomes to value)
unfolding assigned
assigned-holds line becomes to value becomes-in = bind-holds (look-holds (λ k. takes k to.of value.of)) (λ fine.
    bind-holds (late-holds 18 becomes fine refl becomes-in) (λ _. stated-holds becomes (StatementRow.Assign line to.row value.row (type_number to.of))))
