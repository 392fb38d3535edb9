-- A list that ends first decides nothing.
use Rattle.std.proofs.Common.{◌∷◌, ◌≡◌, ◌≤◌, [], ℕ, List, Ok, arith, drop, length, refl, suc, zero}
use Rattle.std.specs.declared.cmp.Ordering.{Ordering}
use Rattle.cell_value.specs.{Comparisons.lists_ranked, declared.values.Value.Value}

ranked_none : (xs : List Value) → lists_ranked xs [] ≡ Ok Ordering.Equal
ranked_none [] = refl
ranked_none (x ∷ xs) = refl

pub ranked_past : (xs ys : List Value) (n : ℕ) → length ys ≤ n → lists_ranked xs (drop n ys) ≡ Ok Ordering.Equal
ranked_past xs [] zero h = ranked_none xs
ranked_past xs [] (suc n) h = ranked_none xs
ranked_past xs (y ∷ ys) zero h = let wrong : ⊥ = omega arith in absurd wrong
ranked_past xs (y ∷ ys) (suc n) h = ranked_past xs ys n (omega arith)
