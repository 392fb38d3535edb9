-- A text that is printed piece by piece.
use Rattle.std.proofs.Common.{◌++◌, ◌+◌, ◌∙◌, ℕ, List, ap, append_assoc, drop, sym, take}
use Rattle.std.proofs.Math.Seq.{take-add}
use Rattle.edge_ports.specs.Printouts.{Printout, Prints}

-- one more piece of a text: n bytes, and then m of those after them
pub prints_piece : (old now new : Printout) (a : List ℕ) (n m : ℕ) → Prints old now (take n a) → Prints now new (take m (drop n a))
    → Prints old new (take (n + m) a)
prints_piece old now new a n m p q = (
  q.0 ∙ ap (λ t. t ++ take m (drop n a)) p.0 ∙ append_assoc old.text (take n a) (take m (drop n a)) ∙ ap (λ t. old.text ++ t) (sym (take-add n m a)),
  q.1 ∙ p.1,
)
