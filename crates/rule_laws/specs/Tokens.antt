-- The tokens of a part of a tree.
use Rattle.std.specs.Prelude.{◌≡◌, ◌⊎◌, ℕ}
use Rattle.grammar.specs.Nodes.{Leaf, Node, Nothing, Pair}

-- a token stands in a part of a tree
abbrev pub Has : Node → ℕ → Type 0
Has (Leaf item) n = item.number ≡ n
Has Nothing n = ⊥
Has (Pair a b) n = Has a n ⊎ Has b n

-- no token stands in it twice
abbrev pub IsDistinct : Node → Type 0
IsDistinct (Leaf item) = Unit {0}
IsDistinct Nothing = Unit {0}
IsDistinct (Pair a b) = IsDistinct a × IsDistinct b × ((n : ℕ) → Has a n → Has b n → ⊥)
