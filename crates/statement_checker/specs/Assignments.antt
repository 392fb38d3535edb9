-- Assignments (6.8.2.2): what stands on the left, and the value.
use Rattle.std.specs.Prelude.{if◌then◌else◌, ◌||◌, ℕ, Bool, None, Option, Some, false, is_some, length, nat_eq, suc}
use Rattle.std.specs.Prelude.{true, zero}
use Rattle.core_program.specs.{ProgramRows.routine_at, declared.program.Routine.Routine}
use Rattle.core_program.specs.declared.rows.{AccessRow.AccessRow, NameRow.NameRow, Row.Row, StatementRow.StatementRow}
use Rattle.check_steps.specs.{Names.usable, Regions.region_at, declared.regions.Found.Found}
use Rattle.check_steps.specs.Known.{Known, find, frame_at, name_at, row_at}
use Rattle.check_steps.specs.Steps.{◌>>=◌, Step, give, late, look, put, when}
use Rattle.kind_checker.specs.{Headings.signature_at, Shapes.is_assignable}
use Rattle.kind_checker.specs.declared.shapes.ExpressionType.{ExpressionType}
use Rattle.expression_checker.specs.{Callees.is_required_function, Names.levels_to, Selectors.type_number}
use Rattle.expression_checker.specs.{Typed.unknown_at, declared.typed.Location.Location, declared.typed.Typed.Typed}
use Rattle.statement_checker.specs.Sequences.{stated}
use Rattle.statement_checker.specs.declared.assignments.{FunctionResult.FunctionResult, Target.Target}

-- ---- what stands on the left of `:=`

-- The result of a function, seen from a frame: its place, how many links lead to its frame, and its type. A procedure
-- has none.
abbrev pub result_at : Known → ℕ → Routine → Option ℕ → Option ℕ → Target
result_at k frame r (Some place) (Some of') = Target.Result (record {
  function = r.name;
  place = place;
  levels = levels_to k frame r.level;
  of = of';
})
result_at k frame r place of' = Target.Access

abbrev pub target_of_result : Known → ℕ → Option Routine → Target
target_of_result k frame None = Target.Access
target_of_result k frame (Some r) = result_at k frame r r.result (signature_at k r.heading).result

-- a function that has no block in the program
abbrev pub blockless_if : Bool → Target
blockless_if function = if function then Target.Blockless else Target.Access

abbrev pub target_in : Known → ℕ → Row → Target
target_in k frame (Row.Name (NameRow.Routine assigned number region)) =
    target_of_result k frame (routine_at k.program number)
target_in k frame (Row.Name (NameRow.RoutineFormal place level heading)) =
    blockless_if (is_some (signature_at k heading).result)
target_in k frame (Row.Name (NameRow.Required routine)) = blockless_if (is_required_function routine)
target_in k frame r = Target.Access

abbrev pub target_of : Known → ℕ → Option Found → Target
target_of k frame None = Target.Access
target_of k frame (Some f) = target_in k frame (row_at k f.definition.token)

-- what a name alone stands for on the left of `:=`; with selectors it is always an access
abbrev pub target_at : Known → ℕ → ℕ → Bool → Target
target_at k frame name true = target_of k frame (usable name (find k frame (name_at k name)))
target_at k frame name false = Target.Access

-- ---- the results of functions

abbrev pub begins_at : Known → ℕ → ℕ → Bool
begins_at k frame token = nat_eq (region_at k.regions (frame_at k frame).region).token token

-- whether a region that begins at a token is among the closest this many around
abbrev pub is_inside_from : ℕ → Known → Option ℕ → ℕ → Bool
is_inside_from n k None token = false
is_inside_from zero k (Some frame) token = false
is_inside_from (suc n) k (Some frame) token = begins_at k frame token
    || is_inside_from n k (frame_at k frame).outer token

-- Whether a frame is inside of a region that begins at a token: the region of a routine begins at its name. No way
-- outward has more frames than there are tokens.
abbrev pub is_inside : Known → ℕ → ℕ → Bool
is_inside k frame token = is_inside_from (length k.words) k (Some frame) token

abbrev pub assigned_in : Row → Bool
assigned_in (Row.Name (NameRow.Routine assigned number region)) = assigned
assigned_in r = false

-- whether a value is assigned so far to a function's name inside its block, by the name in its first heading
abbrev pub is_assigned : Known → ℕ → Bool
is_assigned k name = assigned_in (row_at k name)

abbrev pub with_value : Row → Row
with_value (Row.Name (NameRow.Routine assigned number region)) = Row.Name (NameRow.Routine true number region)
with_value r = r

-- what is known once a value is assigned to a function's name inside its block
unfoldable pub result_assigned : ℕ → Step (Unit {0})
result_assigned name = do
  r ← look (λ k. with_value (row_at k name))
  put name r

-- Rule 13: an assignment to a function's name outside its block, at the name. One inside is what the block needs.
unfoldable pub result_target : ℕ → ℕ → FunctionResult → Step Typed
result_target frame name r = do
  fine ← look (λ k. is_inside k frame r.function)
  _ ← late 13 name fine
  _ ← when fine (result_assigned r.function)
  _ ← put name (Row.Access (AccessRow.Variable r.place r.levels r.of))
  give (record { row = name; of = ExpressionType.Of r.of; location = Location.Variable })

-- rule 13: a functional parameter and a required function have no block in which they could be assigned
unfoldable pub blockless_target : ℕ → Step Typed
blockless_target name = do
  _ ← late 13 name false
  give (unknown_at name)

-- ---- the value

-- A target of unknown type breaks no further rule.
abbrev pub takes : Known → ExpressionType → ExpressionType → Bool
takes k (ExpressionType.Of t) value = is_assignable k t value
takes k t value = true

-- rule 18: the value is not assignment-compatible with the target's type, at the `:=`
unfoldable pub assigned : ℕ → ℕ → Typed → Typed → Step ℕ
assigned line becomes to value = do
  fine ← look (λ k. takes k to.of value.of)
  _ ← late 18 becomes fine
  stated becomes (StatementRow.Assign line to.row value.row (type_number to.of))
