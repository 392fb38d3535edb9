-- Numbers in order, and the last of a list.
use Rattle.std.specs.Prelude.{ℕ, Bool, List, Option, find, reverse, slice_get}
use Rattle.std.specs.List.{range_with_len}

-- the numbers below n, rising
abbrev pub numbers_below : ℕ → List ℕ
numbers_below n = range_with_len 0 n

-- the last element
abbrev pub last_of : {X : Type 0} → List X → Option X
last_of xs = slice_get (reverse xs) 0

-- the last element that passes the test
abbrev pub last_where : {X : Type 0} → (X → Bool) → List X → Option X
last_where test xs = find test (reverse xs)
