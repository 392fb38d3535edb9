-- A node fits a rule if it is one of its trees whatever follows it, the else parts taken as they come.
use Rattle.std.proofs.Common.{◌∷◌, ◌≡◌, [], List, None, Option, Some, inl, inr, map, refl, true}
use Rattle.grammar.proofs.Somewhere.{Nested, many_cons, many_nil, nested, series_cons, series_end, series_nil}
use Rattle.grammar.specs.{Loose.loose, Terminals.one_of, declared.terminals.Terminal.Terminal}
use Rattle.grammar.specs.Grammars.{FreeIn, Grammar, IsNone, Level, choice, greedy, level, many, nothing, seq, series, token}
use Rattle.grammar.specs.Nodes.{Item, Leaf, Node, Nothing, Pair, row}
use Rattle.pas_tree.specs.Operators.{adding_node, direction_node, multiplying_node, relational_node, sign_leaf, sign_node}
use Rattle.pas_tree.specs.Rules.{adding, directions, multiplying, optional, relations, rule, sign_rule, signs}
use Rattle.pas_tree.specs.declared.operators.{AddingOperator.AddingOperator, Direction.Direction, RelationalOperator.RelationalOperator, Sign.Sign}
use Rattle.pas_tree.specs.declared.operators.MultiplyingOperator.{MultiplyingOperator}

abbrev pub loose_rule : Level → Grammar
loose_rule l = loose (rule l)

abbrev Inside : Level → Node → Option Terminal → Type 0
Inside = Nested loose_rule

pub record Fits (g : Grammar) (x : Node) : Type 0 where
  pub before : (h : Option Terminal) → FreeIn Inside (loose g) IsNone x h

pub one : {ks : List Terminal} {item : Item} → one_of ks item.kind ≡ true → Fits (token ks) (Leaf item)
one e = record { before = λ h. e }

pub pair : {a b : Grammar} {x y : Node} → Fits a x → Fits b y → Fits (seq a b) (Pair x y)
pair f g = record { before = λ h. (f.before _, g.before h) }

pub left : {ks : List Terminal} {a b : Grammar} {x : Node} → Fits a x → Fits (choice ks a b) x
left f = record { before = λ h. inl (f.before h) }

pub right : {ks : List Terminal} {a b : Grammar} {x : Node} → Fits b x → Fits (choice ks a b) x
right f = record { before = λ h. inr (f.before h) }

pub empty : Fits nothing Nothing
empty = record { before = λ h. tt }

pub absent : {ks : List Terminal} {a : Grammar} → Fits (optional ks a) Nothing
absent = right empty

pub deeper : {l : Level} {x : Node} → Fits (rule l) x → Fits (level l) x
deeper {l} {x} f = record { before = λ h. nested loose_rule l x h (f.before h) }

pub taken : {ks : List Terminal} {a : Grammar} {x : Node} → Fits a x → Fits (greedy ks a) x
taken f = record { before = λ h. inl (f.before h) }

pub left_out : {ks : List Terminal} {a : Grammar} → Fits (greedy ks a) Nothing
left_out = record { before = λ h. inr tt }

-- ---- what is repeated

pub nil : {ks : List Terminal} {g : Grammar} → Fits (many ks g) Nothing
nil {ks} {g} = record { before = λ h. many_nil Inside ks (loose g) h }

pub cons : {ks : List Terminal} {g : Grammar} {x y : Node} → Fits g x → Fits (many ks g) y → Fits (many ks g) (Pair x y)
cons {ks} {g} {x} {y} f r = record { before = λ h. many_cons Inside ks (loose g) x y h (f.before _) (r.before h) }

pub listed : {A : Type 0} {ks : List Terminal} {g : Grammar} (view : A → Node) → ((x : A) → Fits g (view x)) → (l : List A)
    → Fits (many ks g) (row (map view l))
listed view f [] = nil
listed view f (x ∷ l) = cons (f x) (listed view f l)

pub series_none : {k : Terminal} {ks : List Terminal} {g z : Grammar} → Fits (series k ks g z) Nothing
series_none {k} {ks} {g} {z} = record { before = λ h. series_nil Inside k ks (loose g) (loose z) h }

pub series_last : {k : Terminal} {ks : List Terminal} {g z : Grammar} {s x : Node} → Fits (token (k ∷ [])) s → Fits z x
    → Fits (series k ks g z) (Pair s x)
series_last {k} {ks} {g} {z} {s} {x} l f =
    record { before = λ h. series_end Inside k ks (loose g) (loose z) s x h (l.before h) (f.before h) }

pub series_more : {k : Terminal} {ks : List Terminal} {g z : Grammar} {s x y : Node} → Fits (token (k ∷ [])) s → Fits g x → Fits (series k ks g z) y
    → Fits (series k ks g z) (Pair s (Pair x y))
series_more {k} {ks} {g} {z} {s} {x} {y} l f r =
    record { before = λ h. series_cons Inside k ks (loose g) (loose z) s x y h (l.before h) (f.before _) (r.before h) }

-- ---- one of several tokens

pub sign_leaf_fits : (s : Sign) → Fits (token signs) (sign_leaf s)
sign_leaf_fits (Sign.Plus n) = one refl
sign_leaf_fits (Sign.Minus n) = one refl

pub sign_fits : (s : Option Sign) → Fits sign_rule (sign_node s)
unfolding sign_rule
sign_fits None = absent
sign_fits (Some s) = left (sign_leaf_fits s)

pub adding_fits : (o : AddingOperator) → Fits (token adding) (adding_node o)
adding_fits (AddingOperator.Plus n) = one refl
adding_fits (AddingOperator.Minus n) = one refl
adding_fits (AddingOperator.Or n) = one refl

pub multiplying_fits : (o : MultiplyingOperator) → Fits (token multiplying) (multiplying_node o)
multiplying_fits (MultiplyingOperator.Times n) = one refl
multiplying_fits (MultiplyingOperator.Div n) = one refl
multiplying_fits (MultiplyingOperator.Mod n) = one refl
multiplying_fits (MultiplyingOperator.And n) = one refl

pub relational_fits : (o : RelationalOperator) → Fits (token relations) (relational_node o)
relational_fits (RelationalOperator.Equal n) = one refl
relational_fits (RelationalOperator.NotEqual n) = one refl
relational_fits (RelationalOperator.Less n) = one refl
relational_fits (RelationalOperator.AtMost n) = one refl
relational_fits (RelationalOperator.Greater n) = one refl
relational_fits (RelationalOperator.AtLeast n) = one refl
relational_fits (RelationalOperator.In n) = one refl

pub direction_fits : (d : Direction) → Fits (token directions) (direction_node d)
direction_fits (Direction.To n) = one refl
direction_fits (Direction.Downto n) = one refl
