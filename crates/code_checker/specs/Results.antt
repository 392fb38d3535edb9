-- Functions get a result (6.6.2).
use Rattle.std.specs.Prelude.{◌||◌, ℕ, Bool, not, unwrap_or}
use Rattle.check_steps.specs.{Known.Known, Known.row_at, Steps.◌>>=◌, Steps.Step, Steps.late, Steps.look}
use Rattle.decl_checker.specs.Routines.{first_name}
use Rattle.statement_checker.specs.Assignments.{is_assigned}

-- the name in the first heading of a routine, by the name in this one
abbrev pub name_in_first : Known → ℕ → ℕ
name_in_first k name = unwrap_or (first_name (row_at k name)) name

-- If it is a function's name, there is an assignment to it inside of its block.
abbrev pub has_result : Known → Bool → ℕ → Bool
has_result k function name = not function || is_assigned k (name_in_first k name)

-- rule 12: a function's block has no assignment to its name, at the name in the heading before the block
unfoldable pub function_result : Bool → ℕ → Step (Unit {0})
function_result function name = do
  fine ← look (λ k. has_result k function name)
  late 12 name fine
