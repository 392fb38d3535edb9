-- Whether an address is in a list.
use Rattle.std.specs.Prelude.{if◌then◌else◌, ◌==◌, ◌∷◌, [], ℕ, Bool, List, false, true}

-- whether one of these is of the address
abbrev pub has_key : {X : Type 0} → ℕ → List (ℕ × X) → Bool
has_key a [] = false
has_key a (x ∷ xs) = if x.0 == a then true else has_key a xs
