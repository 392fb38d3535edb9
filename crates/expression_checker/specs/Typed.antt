-- Expressions by number and type, and constants as factors.
use Rattle.std.specs.Prelude.{ℕ, None, Option, Some, length}
use Rattle.pas_tree.specs.declared.constants.Constant.{Constant}
use Rattle.core_program.specs.{ProgramRows.text_at, declared.rows.ExpressionRow.ExpressionRow, declared.rows.Row.Row}
use Rattle.check_steps.specs.Known.{Known}
use Rattle.check_steps.specs.Steps.{◌>>=◌, Step, give, look, put}
use Rattle.kind_checker.specs.Constants.{constant_again}
use Rattle.kind_checker.specs.declared.{constants.ConstantValue.ConstantValue, shapes.ExpressionType.ExpressionType}
use Rattle.expression_checker.specs.declared.typed.{Location.Location, Typed.Typed}

-- a value of a type, at a number
abbrev pub typed_value : ℕ → ExpressionType → Typed
typed_value n of' = record { row = n; of = of'; location = Location.Nowhere }

abbrev pub unknown_at : ℕ → Typed
unknown_at n = typed_value n ExpressionType.Unknown

-- An expression in parentheses has the number of the one inside, and is no access.
abbrev pub bracketed : Typed → Typed
bracketed v = typed_value v.row v.of

-- ---- constants

abbrev pub constant_row : Option ConstantValue → Row
constant_row None = Row.Nothing
constant_row (Some (ConstantValue.Ordinal of' v)) = Row.Expression (ExpressionRow.Constant v)
constant_row (Some (ConstantValue.Text token)) = Row.Expression (ExpressionRow.Text token)

abbrev pub constant_type : Known → Option ConstantValue → ExpressionType
constant_type k None = ExpressionType.Unknown
constant_type k (Some (ConstantValue.Ordinal of' v)) = ExpressionType.Of of'
constant_type k (Some (ConstantValue.Text token)) = ExpressionType.Text (length (text_at k.program token))

-- a constant as a factor, at its only token
unfoldable pub constant_at : ℕ → Option ConstantValue → Step Typed
constant_at token v = do
  of' ← look (λ k. constant_type k v)
  _ ← put token (constant_row v)
  give (typed_value token of')

-- a number or a string, which is the constant that it stands for
unfoldable pub literal : ℕ → Constant → Step Typed
literal token c = do
  v ← constant_again 0 c
  constant_at token v

unfoldable pub nil_at : ℕ → Step Typed
nil_at token = do
  _ ← put token (Row.Expression ExpressionRow.Nil)
  give (typed_value token ExpressionType.Nil)
