-- Tokens that stand in one part of a node stand in no other.
use Rattle.std.proofs.Common.{◌≡◌, ℕ, inl, inr, refl, subst}
use Rattle.grammar.specs.Nodes.{Leaf, Node, Nothing, Pair}
use Rattle.rule_laws.proofs.Every.{Every, Of}
use Rattle.rule_laws.specs.Tokens.{Has}

-- all tokens of a part that stands in a node
pub every_has : (x : Node) → Every (Has x) x
every_has x = inside x x (λ n h. h)
  where
    inside : (y : Node) (whole : Node) → ((n : ℕ) → Has y n → Has whole n) → Every (Has whole) y
    inside (Leaf item) whole f = record { is = f item.number refl }
    inside Nothing whole f = tt
    inside (Pair a b) whole f = (inside a whole (λ n h. f n (inl h)), inside b whole (λ n h. f n (inr h)))

-- a token that does not stand there
pub every_other : (x : Node) (t : ℕ) → (Has x t → ⊥) → Every (λ n. n ≡ t → ⊥) x
every_other (Leaf item) t off = record { is = off }
every_other Nothing t off = tt
every_other (Pair a b) t off = (every_other a t (λ h. off (inl h)), every_other b t (λ h. off (inr h)))

-- a token of which something holds of all is one of it
pub has_every : {P : ℕ → Type 0} (x : Node) (t : ℕ) → Every P x → Has x t → Of P t
has_every {P = P} (Leaf item) t e h = subst (Of P) h e
has_every Nothing t e h = absurd h
has_every (Pair a b) t e (inl h) = has_every a t e.0 h
has_every (Pair a b) t e (inr h) = has_every b t e.1 h
