-- Where the cells of matching variables are, as the code keeps it: a column over the addresses.
use Rattle.std.specs.Prelude.{◌+◌, ◌≡◌, ◌≤◌, ℕ, All, Bool, List, None, Option, Some, is_some, slice_get, true}
use Rattle.std.specs.{Prelude.unwrap_or, FinMap.FinMap, FinMap.get, Ordering.nat_cmp}
use Rattle.cell_value.specs.declared.values.Value.{Value}
use Rattle.reference_oracle.specs.{Matches.in_reference, declared.matches.Match.Match}

abbrev pub place_at : List (Option ℕ) → (address : ℕ) → Option ℕ
place_at places address = unwrap_or (slice_get places address) None

-- the column says of each address what the matches say
abbrev pub ArePlaces : List Match → List (Option ℕ) → Type 0
ArePlaces ms places = (address : ℕ) → place_at places address ≡ in_reference ms address

-- no cell of a matching variable has this address or a greater one
abbrev pub EndsBefore : List Match → (end : ℕ) → Type 0
EndsBefore ms end = All (λ m. m.subject + m.cells ≤ end) ms

-- ---- tests by the column

abbrev pub has_place : List (Option ℕ) → (address : ℕ) → Bool
has_place places address = is_some (place_at places address)

abbrev pub is_placed : List (Option ℕ) → Value → Bool
is_placed places (Value.Place address) = has_place places address
is_placed places v = true

-- the cells of matching variables are left the same
abbrev pub AreLeftSame : List (Option ℕ) → (left answer : FinMap nat_cmp Value) → Type 0
AreLeftSame places left answer =
    (address there : ℕ) → place_at places address ≡ Some there → get answer there ≡ get left address
