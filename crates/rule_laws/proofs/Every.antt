-- What holds of every token of a node.
use Rattle.std.proofs.Common.{ℕ, None, Option, Some}
use Rattle.grammar.specs.Nodes.{Leaf, Node, Nothing, Pair}

pub record Of (Q : ℕ → Type 0) (token : ℕ) : Type 0 where
  pub is : Q token

abbrev pub Every : (ℕ → Type 0) → Node → Type 0
Every Q (Leaf item) = Of Q item.number
Every Q Nothing = Unit {0}
Every Q (Pair a b) = Every Q a × Every Q b

abbrev pub Below : (ℕ → Type 0) → Option ℕ → Type 0
Below Q None = Unit {0}
Below Q (Some token) = Of Q token

pub every : {P Q : ℕ → Type 0} → ((n : ℕ) → P n → Q n) → (x : Node) → Every P x → Every Q x
every f (Leaf item) h = record { is = f item.number h.is }
every f Nothing h = tt
every f (Pair a b) h = (every f a h.0, every f b h.1)
