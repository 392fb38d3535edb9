-- Where a body is at work: its frame, and the records that with statements have established, the outermost first.
use Rattle.std.specs.Prelude.{◌∷◌, ◌≡◌, [], ℕ, List, reverse}
use Rattle.evaluator.specs.declared.tasks.Home.{Home}

abbrev pub without_first : List ℕ → List ℕ
without_first [] = []
without_first (x ∷ xs) = xs

-- all but the innermost
abbrev pub without_last : List ℕ → List ℕ
without_last records = reverse (without_first (reverse records))

-- the same routine, in the same frame
pub record SameFrame (a b : Home) : Type 0 where
  pub routine : a.routine ≡ b.routine
  pub base : a.base ≡ b.base
