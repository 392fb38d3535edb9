-- The tokens of a node are among the first ones, and so are the places of its parts.
use Rattle.std.proofs.Common.{◌++◌, ◌<◌, ◌∷◌, [], ℕ, List, None, Option, Some}
use Rattle.grammar.specs.Nodes.{Item, Leaf, Node, Nothing, Pair, spell}

abbrev pub Within : ℕ → Node → Type 0
Within size (Leaf item) = item.number < size
Within size Nothing = Unit {0}
Within size (Pair a b) = Within size a × Within size b

abbrev pub Below : ℕ → Option ℕ → Type 0
Below size None = Unit {0}
Below size (Some token) = token < size

abbrev pub Numbers : ℕ → List Item → Type 0
Numbers size [] = Unit {0}
Numbers size (i ∷ is) = (i.number < size) × Numbers size is

parted : (size : ℕ) (xs ys : List Item) → Numbers size (xs ++ ys) → Numbers size xs × Numbers size ys
parted size [] ys n = (tt, n)
parted size (i ∷ xs) ys n = let p = parted size xs ys n.1 in ((n.0, p.0), p.1)

pub within : (size : ℕ) (x : Node) → Numbers size (spell x) → Within size x
within size (Leaf item) n = n.0
within size Nothing n = tt
within size (Pair a b) n = let p = parted size (spell a) (spell b) n in (within size a p.0, within size b p.1)
