-- With statements (6.8.3.10): records, and the frames in which their fields are the closest names.
use Rattle.std.specs.Prelude.{ℕ, Option}
use Rattle.core_program.specs.declared.rows.StatementRow.TheVariants as statement
use Rattle.check_steps.specs.Steps.{◌>>=◌, Step, late, look}
use Rattle.decl_checker.specs.Statements.{fields_in, inside_of}
use Rattle.expression_checker.specs.{Selectors.is_record, Selectors.type_row, declared.typed.Typed.Typed}
use Rattle.statement_checker.specs.Sequences.{line_of, stated}

-- Rule 23: `with` is applied to a type that has no fields, at the first token of the access. The frame inside is given;
-- without a record names are looked up as outside of the statement.
unfoldable pub inside_record : ℕ → ℕ → Typed → Step ℕ
inside_record frame first v = do
  r ← look (λ k. type_row k v.of)
  _ ← late 23 first (is_record r)
  inside_of frame (fields_in r)

-- a with statement, at its `do`; the list of its records stands at its word
unfoldable pub put_with : Option ℕ → ℕ → ℕ → ℕ → Step ℕ
put_with label word do_word body = do
  line ← look (λ k. line_of k label word)
  stated do_word (statement.With line word body)
