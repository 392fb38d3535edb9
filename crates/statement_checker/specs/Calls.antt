-- Procedure statements (6.8.2.3): what is called, widths, and the rows of calls.
use Rattle.std.specs.Prelude.{if◌then◌else◌, ℕ, Bool, false, is_none, not, true}
use Rattle.core_program.specs.declared.rows.Row.{Row}
use Rattle.core_program.specs.declared.rows.StatementRow.TheVariants as statement
use Rattle.check_steps.specs.{Known.Known, Names.use_again}
use Rattle.check_steps.specs.Steps.{◌>>=◌, Step, give, late, look, put}
use Rattle.kind_checker.specs.Headings.{signature_at}
use Rattle.expression_checker.specs.{Callees.callee_of, Callees.is_required_function, declared.callees.Callee.Callee}

-- A name of unknown meaning breaks no further rule.
abbrev pub is_procedure : Known → Callee → Bool
is_procedure k Callee.Unknown = true
is_procedure k Callee.Wrong = false
is_procedure k (Callee.Routine number levels heading) = is_none (signature_at k heading).result
is_procedure k (Callee.Formal formal levels heading) = is_none (signature_at k heading).result
is_procedure k (Callee.Required r) = not (is_required_function r)

-- rule 3: the name stands for another kind of thing than a procedure
unfoldable pub procedure_at : ℕ → ℕ → Step Callee
procedure_at frame name = do
  found ← use_again frame name
  c ← look (λ k. callee_of k frame found)
  fine ← look (λ k. is_procedure k c)
  _ ← late 3 name fine
  give (if fine then c else Callee.Wrong)

-- the row of a call of a procedure that the program declares, or of a parameter, whose list of actuals has a number
abbrev pub call_in : Callee → ℕ → ℕ → Row
call_in (Callee.Routine number levels heading) line actuals = Row.Statement (statement.Call line number levels actuals)
call_in (Callee.Formal formal levels heading) line actuals =
    Row.Statement (statement.CallFormal line formal levels actuals)
call_in c line actuals = Row.Nothing

-- a call, at the procedure's name
unfoldable pub call_row : ℕ → ℕ → Callee → ℕ → Step ℕ
call_row line name c actuals = do
  _ ← put name (call_in c line actuals)
  give name
