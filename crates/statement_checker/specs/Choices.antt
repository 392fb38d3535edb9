-- Case statements (6.8.3.5): selectors. Their constants are those of `choices`.
use Rattle.std.specs.Prelude.{ℕ, Option}
use Rattle.core_program.specs.declared.rows.StatementRow.{StatementRow}
use Rattle.check_steps.specs.Steps.{◌>>=◌, Step, give, late, look}
use Rattle.kind_checker.specs.{Operators.is_ordinal, Shapes.shape_of, declared.shapes.Shape.Shape}
use Rattle.denoter_checker.specs.declared.variants.Choosing.{Choosing}
use Rattle.expression_checker.specs.declared.typed.Typed.{Typed}
use Rattle.statement_checker.specs.Sequences.{line_of, stated}

-- the host type of an ordinal one, and else this number, at which no type stands
abbrev pub host_or : Shape → ℕ → ℕ
host_or (Shape.Ordinal host) otherwise = host
host_or s otherwise = otherwise

-- Rule 6: a case selector is not ordinal, at its first token. What is given is what its constants have in common: their
-- list stands at the word `of`.
unfoldable pub selector : ℕ → ℕ → ℕ → Typed → Step Choosing
selector frame of' first v = do
  s ← look (λ k. shape_of k v.of)
  _ ← late 6 first (is_ordinal s)
  give (record { frame = frame; host = host_or s of'; list = of' })

unfoldable pub case_row : Option ℕ → ℕ → ℕ → ℕ → Step ℕ
case_row label word selector choices = do
  line ← look (λ k. line_of k label word)
  stated word (StatementRow.Case line selector choices)
