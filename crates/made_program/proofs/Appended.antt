-- Pieces that are appended one after the other.
use Rattle.std.proofs.Common.{◌++◌, ◌∙◌, ◌≡◌, ℕ, List, ap, append_assoc}

-- two pieces, one after the other, are one piece
pub then_more : (old x y : List ℕ) {mid new : List ℕ} → mid ≡ old ++ x → new ≡ mid ++ y → new ≡ old ++ (x ++ y)
then_more old x y e f = f ∙ ap (λ (m : List ℕ). m ++ y) e ∙ append_assoc old x y
