-- Names and constants as nodes.
use Rattle.std.specs.Prelude.{None, Option, Some, map}
use Rattle.grammar.specs.{Nodes.Node, Nodes.Pair, Nodes.leaf, Nodes.row, declared.terminals.Terminal.Terminal}
use Rattle.pas_tree.specs.Operators.{sign_leaf}
use Rattle.pas_tree.specs.declared.{constants.NextConstant.NextConstant, operators.Sign.Sign}
use Rattle.pas_tree.specs.declared.constants.{Constant.Constant, Constants.Constants, Names.Names, NextName.NextName}

abbrev pub next_name_node : NextName → Node
next_name_node n = Pair (leaf Terminal.Comma n.comma) (leaf Terminal.Name n.name)

abbrev pub names_node : Names → Node
names_node n = Pair (leaf Terminal.Name n.first) (row (map next_name_node n.others.items))

abbrev pub signed_node : Option Sign → Node → Node
signed_node None x = x
signed_node (Some s) x = Pair (sign_leaf s) x

abbrev pub constant_node : Constant → Node
constant_node (Constant.Number sign n) = signed_node sign (leaf Terminal.Number n)
constant_node (Constant.Name sign n) = signed_node sign (leaf Terminal.Name n)
constant_node (Constant.Text n) = leaf Terminal.Text n

abbrev pub next_constant_node : NextConstant → Node
next_constant_node n = Pair (leaf Terminal.Comma n.comma) (constant_node n.constant)

abbrev pub constants_node : Constants → Node
constants_node c = Pair (constant_node c.first) (row (map next_constant_node c.others.items))
