-- Where the pairs of each call begin in a slice, in which those of one call stand together.
use Rattle.std.specs.Prelude.{if◌then◌else◌, ◌++◌, ◌==◌, ◌∷◌, ◌≡◌, [], ℕ, List, None, Option, Some, false, length, suc}
use Rattle.std.specs.{List.slice_get, Option.option_map}
use Rattle.output_slice.specs.{Backward.some_at, Backward.with_number, declared.outputs.Output.Output}

-- the place of the first pair of a call
abbrev pub first_at : ℕ → List (ℕ × Output) → Option ℕ
first_at n [] = None
first_at n (y ∷ ys) = if n == y.0 then Some 0 else option_map suc (first_at n ys)

-- the column has the place of the first pair of each call
pub record AreFirsts (pairs : List (ℕ × Output)) (firsts : List (Option ℕ)) : Type 0 where
  pub each : (call : ℕ) (place : Option ℕ) → slice_get firsts call ≡ Some place → place ≡ first_at call pairs

-- the pairs of a call stand together from this place on, and there are no others of it
pub record IsTogether (pairs : List (ℕ × Output)) (call place : ℕ) : Type 0 where
  pub before : List (ℕ × Output)
  pub outputs : List Output
  pub after : List (ℕ × Output)
  pub is : pairs ≡ before ++ (with_number call outputs ++ after)
  pub at : length before ≡ place
  pub none_before : some_at call before ≡ false
  pub none_after : some_at call after ≡ false

-- the output of a pair that is there, if it is one of this call
abbrev pub output_of : ℕ → Option (ℕ × Output) → Option Output
output_of n None = None
output_of n (Some y) = if n == y.0 then Some y.1 else None
