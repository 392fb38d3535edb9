-- Finite maps from addresses. The addresses are the numbers below 1,048,576, which is 16 ^ 5.
use Rattle.std.specs.Prelude.{ℕ, None, Option, Some, suc, zero}
use Rattle.std.specs.{FinMap.FinMap, FinMap.empty, FinMap.insert, FinMap.remove, Ordering.nat_cmp}

-- the map with this value at the key, where there is a value
abbrev pub with_value_at : {V : Type 0} → FinMap nat_cmp V → ℕ → Option V → FinMap nat_cmp V
with_value_at m key (Some value) = insert m key value
with_value_at m key None = m

-- the map of what a function gives at each number below n
unfoldable pub map_below : {V : Type 0} → ℕ → (ℕ → Option V) → FinMap nat_cmp V
map_below zero f = empty
map_below (suc n) f = with_value_at (map_below n f) n (f n)

-- the map of what a function gives at each address
unfoldable pub map_of : {V : Type 0} → (ℕ → Option V) → FinMap nat_cmp V
map_of f = map_below 1048576 f

-- the map with a value at the key, or with none there
abbrev pub with_cell : {V : Type 0} → FinMap nat_cmp V → ℕ → Option V → FinMap nat_cmp V
with_cell m key (Some value) = insert m key value
with_cell m key None = remove m key
