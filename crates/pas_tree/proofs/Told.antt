-- What a node's form, its parts and its first terminal tell of what it is the node of.
use Rattle.std.proofs.Common.{◌<◌, ◌∷◌, ◌≡◌, [], ℕ, List, None, Option, Some, ap, arith, map, refl}
use Rattle.grammar.specs.{Terminals.place, declared.terminals.Terminal.Terminal}
use Rattle.grammar.specs.Nodes.{Leaf, Node, Nothing, Pair, row}
use Rattle.pas_tree.specs.{ConstantTrees.constants_tree, ConstantTrees.names_tree, declared.operators.MultiplyingOperator.MultiplyingOperator}
use Rattle.pas_tree.specs.Constants.{constant_node, constants_node, names_node, next_constant_node, next_name_node}
use Rattle.pas_tree.specs.Operators.{adding_node, direction_node, multiplying_node, relational_node, sign_leaf, sign_node, token_node}
use Rattle.pas_tree.specs.declared.constants.{Constant.Constant, Constants.Constants, Names.Names, NextConstant.NextConstant, NextName.NextName}
use Rattle.pas_tree.specs.declared.operators.{AddingOperator.AddingOperator, Direction.Direction, RelationalOperator.RelationalOperator, Sign.Sign}

abbrev pub form : Node → ℕ
form (Leaf item) = 0
form Nothing = 1
form (Pair a b) = 2

abbrev pub number : Node → ℕ
number (Leaf item) = item.number
number Nothing = 0
number (Pair a b) = 0

abbrev pub left : Node → Node
left (Leaf item) = Nothing
left Nothing = Nothing
left (Pair a b) = a

abbrev pub right : Node → Node
right (Leaf item) = Nothing
right Nothing = Nothing
right (Pair a b) = b

-- the place of the first terminal on the left
abbrev pub lead : Node → ℕ
lead (Leaf item) = place item.kind
lead Nothing = 59
lead (Pair a b) = lead a

-- and of the last on the right
abbrev last : Node → ℕ
last (Leaf item) = place item.kind
last Nothing = 59
last (Pair a b) = last b

-- the number in the left part, and the parts of the right part
abbrev pub left_number : Node → ℕ
left_number x = number (left x)

abbrev pub second : Node → Node
second x = left (right x)

abbrev pub rest : Node → Node
rest x = right (right x)

pub sign_leaf_told : (s t : Sign) → sign_leaf s ≡ sign_leaf t → s ≡ t
sign_leaf_told (Sign.Plus n) (Sign.Plus m) e = ap Sign.Plus (ap number e)
sign_leaf_told (Sign.Minus n) (Sign.Minus m) e = ap Sign.Minus (ap number e)
sign_leaf_told s t e = absurd (omega (arith, ap lead e))

sign_leaf_form : (s : Sign) → form (sign_leaf s) ≡ 0
sign_leaf_form (Sign.Plus n) = refl
sign_leaf_form (Sign.Minus n) = refl

pub sign_told : (s t : Option Sign) → sign_node s ≡ sign_node t → s ≡ t
sign_told None None e = refl
sign_told (Some s) (Some t) e = ap Some (sign_leaf_told s t e)
sign_told None (Some t) e = absurd (omega (arith, ap form e, sign_leaf_form t))
sign_told (Some s) None e = absurd (omega (arith, ap form e, sign_leaf_form s))

pub adding_told : (o p : AddingOperator) → adding_node o ≡ adding_node p → o ≡ p
adding_told (AddingOperator.Plus n) (AddingOperator.Plus m) e = ap AddingOperator.Plus (ap number e)
adding_told (AddingOperator.Minus n) (AddingOperator.Minus m) e = ap AddingOperator.Minus (ap number e)
adding_told (AddingOperator.Or n) (AddingOperator.Or m) e = ap AddingOperator.Or (ap number e)
adding_told o p e = absurd (omega (arith, ap lead e))

pub multiplying_told : (o p : MultiplyingOperator) → multiplying_node o ≡ multiplying_node p → o ≡ p
multiplying_told (MultiplyingOperator.Times n) (MultiplyingOperator.Times m) e = ap MultiplyingOperator.Times (ap number e)
multiplying_told (MultiplyingOperator.Div n) (MultiplyingOperator.Div m) e = ap MultiplyingOperator.Div (ap number e)
multiplying_told (MultiplyingOperator.Mod n) (MultiplyingOperator.Mod m) e = ap MultiplyingOperator.Mod (ap number e)
multiplying_told (MultiplyingOperator.And n) (MultiplyingOperator.And m) e = ap MultiplyingOperator.And (ap number e)
multiplying_told o p e = absurd (omega (arith, ap lead e))

pub relational_told : (o p : RelationalOperator) → relational_node o ≡ relational_node p → o ≡ p
relational_told (RelationalOperator.Equal n) (RelationalOperator.Equal m) e = ap RelationalOperator.Equal (ap number e)
relational_told (RelationalOperator.NotEqual n) (RelationalOperator.NotEqual m) e = ap RelationalOperator.NotEqual (ap number e)
relational_told (RelationalOperator.Less n) (RelationalOperator.Less m) e = ap RelationalOperator.Less (ap number e)
relational_told (RelationalOperator.AtMost n) (RelationalOperator.AtMost m) e = ap RelationalOperator.AtMost (ap number e)
relational_told (RelationalOperator.Greater n) (RelationalOperator.Greater m) e = ap RelationalOperator.Greater (ap number e)
relational_told (RelationalOperator.AtLeast n) (RelationalOperator.AtLeast m) e = ap RelationalOperator.AtLeast (ap number e)
relational_told (RelationalOperator.In n) (RelationalOperator.In m) e = ap RelationalOperator.In (ap number e)
relational_told o p e = absurd (omega (arith, ap lead e))

pub direction_told : (d c : Direction) → direction_node d ≡ direction_node c → d ≡ c
direction_told (Direction.To n) (Direction.To m) e = ap Direction.To (ap number e)
direction_told (Direction.Downto n) (Direction.Downto m) e = ap Direction.Downto (ap number e)
direction_told d c e = absurd (omega (arith, ap lead e))

-- lists
pub all_told : {A B : Type 0} (view : A → Node) (tree : A → B) → ((x y : A) → view x ≡ view y → tree x ≡ tree y) → (xs ys : List A)
    → row (map view xs) ≡ row (map view ys) → map tree xs ≡ map tree ys
all_told view tree told [] [] e = refl
all_told view tree told (x ∷ xs) (y ∷ ys) e = λ i. told x y (ap left e) i ∷ all_told view tree told xs ys (ap right e) i
all_told view tree told xs ys e = absurd (omega (arith, ap form e))

-- the same of items that hold no memory
pub items_told : {A : Type 0} (view : A → Node) → ((x y : A) → view x ≡ view y → x ≡ y) → (xs ys : List A)
    → row (map view xs) ≡ row (map view ys) → xs ≡ ys
items_told view told [] [] e = refl
items_told view told (x ∷ xs) (y ∷ ys) e = λ i. told x y (ap left e) i ∷ items_told view told xs ys (ap right e) i
items_told view told xs ys e = absurd (omega (arith, ap form e))

pub row_form : (l : List Node) → 0 < form (row l)
row_form [] = omega arith
row_form (x ∷ l) = omega arith

pub token_told : (kind : Terminal) (p q : Option ℕ) → token_node kind p ≡ token_node kind q → p ≡ q
token_told kind None None e = refl
token_told kind (Some n) (Some m) e = ap Some (ap number e)
token_told kind p q e = absurd (omega (arith, ap form e))

-- ---- names and constants

next_name_told : (a b : NextName) → next_name_node a ≡ next_name_node b → a ≡ b
next_name_told a b e = λ i. record { comma = ap left_number e i; name = ap number (ap right e) i }

pub names_told : (a b : Names) → names_node a ≡ names_node b → names_tree a ≡ names_tree b
names_told a b e =
    λ i. record {
      first = ap left_number e i;
      others = items_told next_name_node next_name_told a.others.items b.others.items (ap right e) i;
    }

abbrev constant_place : Constant → ℕ
constant_place (Constant.Number s n) = place Terminal.Number
constant_place (Constant.Name s n) = place Terminal.Name
constant_place (Constant.Text n) = place Terminal.Text

constant_last : (c : Constant) → last (constant_node c) ≡ constant_place c
constant_last (Constant.Number None n) = refl
constant_last (Constant.Number (Some s) n) = refl
constant_last (Constant.Name None n) = refl
constant_last (Constant.Name (Some s) n) = refl
constant_last (Constant.Text n) = refl

pub constant_told : (c d : Constant) → constant_node c ≡ constant_node d → c ≡ d
constant_told (Constant.Number None n) (Constant.Number None m) e = ap (Constant.Number None) (ap number e)
constant_told (Constant.Number (Some s) n) (Constant.Number (Some t) m) e = cc (sign_leaf_told s t (ap left e), ap number (ap right e))
constant_told (Constant.Name None n) (Constant.Name None m) e = ap (Constant.Name None) (ap number e)
constant_told (Constant.Name (Some s) n) (Constant.Name (Some t) m) e = cc (sign_leaf_told s t (ap left e), ap number (ap right e))
constant_told (Constant.Text n) (Constant.Text m) e = ap Constant.Text (ap number e)
constant_told c d e = absurd (omega (arith, ap form e, ap last e, constant_last c, constant_last d))

next_constant_told : (a b : NextConstant) → next_constant_node a ≡ next_constant_node b → a ≡ b
next_constant_told a b e = λ i. record { comma = ap left_number e i; constant = constant_told a.constant b.constant (ap right e) i }

pub constants_told : (a b : Constants) → constants_node a ≡ constants_node b → constants_tree a ≡ constants_tree b
constants_told a b e =
    λ i. record {
      first = constant_told a.first b.first (ap left e) i;
      others = items_told next_constant_node next_constant_told a.others.items b.others.items (ap right e) i;
    }
