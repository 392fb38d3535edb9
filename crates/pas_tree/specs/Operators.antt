-- Terminals of which a rule takes one of several, as leaves.
use Rattle.std.specs.Prelude.{ℕ, None, Option, Some}
use Rattle.grammar.specs.{Nodes.Node, Nodes.Nothing, Nodes.leaf, declared.terminals.Terminal.Terminal}
use Rattle.pas_tree.specs.declared.operators.{AddingOperator.AddingOperator, Direction.Direction, Sign.Sign}
use Rattle.pas_tree.specs.declared.operators.MultiplyingOperator.{MultiplyingOperator}
use Rattle.pas_tree.specs.declared.operators.RelationalOperator.{RelationalOperator}

abbrev pub sign_leaf : Sign → Node
sign_leaf (Sign.Plus n) = leaf Terminal.Plus n
sign_leaf (Sign.Minus n) = leaf Terminal.Minus n

abbrev pub sign_node : Option Sign → Node
sign_node None = Nothing
sign_node (Some s) = sign_leaf s

abbrev pub adding_node : AddingOperator → Node
adding_node (AddingOperator.Plus n) = leaf Terminal.Plus n
adding_node (AddingOperator.Minus n) = leaf Terminal.Minus n
adding_node (AddingOperator.Or n) = leaf Terminal.WOr n

abbrev pub multiplying_node : MultiplyingOperator → Node
multiplying_node (MultiplyingOperator.Times n) = leaf Terminal.Star n
multiplying_node (MultiplyingOperator.Div n) = leaf Terminal.WDiv n
multiplying_node (MultiplyingOperator.Mod n) = leaf Terminal.WMod n
multiplying_node (MultiplyingOperator.And n) = leaf Terminal.WAnd n

abbrev pub relational_node : RelationalOperator → Node
relational_node (RelationalOperator.Equal n) = leaf Terminal.Equal n
relational_node (RelationalOperator.NotEqual n) = leaf Terminal.NotEqual n
relational_node (RelationalOperator.Less n) = leaf Terminal.Less n
relational_node (RelationalOperator.AtMost n) = leaf Terminal.AtMost n
relational_node (RelationalOperator.Greater n) = leaf Terminal.Greater n
relational_node (RelationalOperator.AtLeast n) = leaf Terminal.AtLeast n
relational_node (RelationalOperator.In n) = leaf Terminal.WIn n

abbrev pub direction_node : Direction → Node
direction_node (Direction.To n) = leaf Terminal.WTo n
direction_node (Direction.Downto n) = leaf Terminal.WDownto n

-- a token that may be left out
abbrev pub token_node : Terminal → Option ℕ → Node
token_node kind None = Nothing
token_node kind (Some n) = leaf kind n
