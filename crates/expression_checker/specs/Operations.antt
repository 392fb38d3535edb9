-- Operators and signs, once their operands are checked (6.7.2).
use Rattle.std.specs.Prelude.{if◌then◌else◌, ℕ, Bool, None, Option, Some, false, true}
use Rattle.cell_value.specs.declared.values.Order.{Order}
use Rattle.pas_tree.specs.OperatorPlaces.{sign_token}
use Rattle.pas_tree.specs.declared.operators.{AddingOperator.AddingOperator, MultiplyingOperator.MultiplyingOperator}
use Rattle.pas_tree.specs.declared.operators.{RelationalOperator.RelationalOperator, Sign.Sign}
use Rattle.core_program.specs.declared.rows.{ExpressionRow.ExpressionRow, Row.Row}
use Rattle.check_steps.specs.Steps.{◌>>=◌, Step, give, late, look, put}
use Rattle.kind_checker.specs.{Shapes.shape_of, declared.operators.Operator.Operator}
use Rattle.kind_checker.specs.Operators.{fits, is_of_host, is_operand, operation_of, operation_row, operation_type}
use Rattle.kind_checker.specs.declared.shapes.{ExpressionType.ExpressionType, Shape.Shape}
use Rattle.expression_checker.specs.{Typed.typed_value, declared.typed.Typed.Typed}

abbrev pub adding_operator : AddingOperator → Operator
adding_operator (AddingOperator.Plus token) = Operator.Plus
adding_operator (AddingOperator.Minus token) = Operator.Minus
adding_operator (AddingOperator.Or token) = Operator.Or

abbrev pub multiplying_operator : MultiplyingOperator → Operator
multiplying_operator (MultiplyingOperator.Times token) = Operator.Times
multiplying_operator (MultiplyingOperator.Div token) = Operator.Div
multiplying_operator (MultiplyingOperator.Mod token) = Operator.Mod
multiplying_operator (MultiplyingOperator.And token) = Operator.And

abbrev pub relational_operator : RelationalOperator → Operator
relational_operator (RelationalOperator.Equal token) = Operator.Relation Order.Equal
relational_operator (RelationalOperator.NotEqual token) = Operator.Relation Order.NotEqual
relational_operator (RelationalOperator.Less token) = Operator.Relation Order.Less
relational_operator (RelationalOperator.AtMost token) = Operator.Relation Order.AtMost
relational_operator (RelationalOperator.Greater token) = Operator.Relation Order.Greater
relational_operator (RelationalOperator.AtLeast token) = Operator.Relation Order.AtLeast
relational_operator (RelationalOperator.In token) = Operator.In

-- rule 30: the operands do not fit the operator
unfoldable pub operated : Operator → ℕ → Typed → Typed → Step Typed
operated o token l r = do
  x ← look (λ k. shape_of k l.of)
  y ← look (λ k. shape_of k r.of)
  _ ← late 30 token (fits o x y)
  _ ← put token (operation_row (operation_of o x y) l.row r.row)
  give (typed_value token (operation_type (operation_of o x y)))

-- the ordinal type of this host, where the operand is of it
abbrev pub type_if : ℕ → Shape → ExpressionType
type_if host s = if is_of_host host s then ExpressionType.Of host else ExpressionType.Unknown

-- rule 30: the operand does not fit `not`, which takes a Boolean
unfoldable pub negated : ℕ → Typed → Step Typed
negated word v = do
  s ← look (λ k. shape_of k v.of)
  _ ← late 30 word (is_operand 1 s)
  _ ← put word (Row.Expression (ExpressionRow.Not v.row))
  give (typed_value word (type_if 1 s))

abbrev pub is_minus : Sign → Bool
is_minus (Sign.Plus token) = false
is_minus (Sign.Minus token) = true

-- rule 30: the operand does not fit the sign, which takes an integer
unfoldable pub sign_before : Sign → Typed → Step Typed
sign_before s v = do
  x ← look (λ k. shape_of k v.of)
  _ ← late 30 (sign_token s) (is_operand 0 x)
  _ ← put (sign_token s) (Row.Expression (ExpressionRow.Sign (is_minus s) v.row))
  give (typed_value (sign_token s) (type_if 0 x))

-- The sign is that of the first term.
abbrev pub signed : Option Sign → Typed → Step Typed
signed None v = give v
signed (Some s) v = sign_before s v
