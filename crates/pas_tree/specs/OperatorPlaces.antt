-- The tokens of terminals of which a rule takes one of several.
use Rattle.std.specs.Prelude.{ℕ}
use Rattle.pas_tree.specs.declared.operators.{AddingOperator.AddingOperator, Direction.Direction, Sign.Sign}
use Rattle.pas_tree.specs.declared.operators.MultiplyingOperator.{MultiplyingOperator}
use Rattle.pas_tree.specs.declared.operators.RelationalOperator.{RelationalOperator}

abbrev pub sign_token : Sign → ℕ
sign_token (Sign.Plus n) = n
sign_token (Sign.Minus n) = n

abbrev pub adding_token : AddingOperator → ℕ
adding_token (AddingOperator.Plus n) = n
adding_token (AddingOperator.Minus n) = n
adding_token (AddingOperator.Or n) = n

abbrev pub multiplying_token : MultiplyingOperator → ℕ
multiplying_token (MultiplyingOperator.Times n) = n
multiplying_token (MultiplyingOperator.Div n) = n
multiplying_token (MultiplyingOperator.Mod n) = n
multiplying_token (MultiplyingOperator.And n) = n

abbrev pub relational_token : RelationalOperator → ℕ
relational_token (RelationalOperator.Equal n) = n
relational_token (RelationalOperator.NotEqual n) = n
relational_token (RelationalOperator.Less n) = n
relational_token (RelationalOperator.AtMost n) = n
relational_token (RelationalOperator.Greater n) = n
relational_token (RelationalOperator.AtLeast n) = n
relational_token (RelationalOperator.In n) = n

abbrev pub direction_token : Direction → ℕ
direction_token (Direction.To n) = n
direction_token (Direction.Downto n) = n
