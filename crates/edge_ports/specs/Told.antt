-- Bytes that an object of the outside may tell: `None` where it does not.
use Rattle.std.specs.Prelude.{◌++◌, ◌≡◌, ℕ, List, Option}
use Rattle.std.specs.Io.KnownBytes.{append_known, prepend_known}

-- what was given grew by these bytes
abbrev pub GaveAll : Option (List ℕ) → Option (List ℕ) → List ℕ → Type 0
GaveAll old new bytes = new ≡ append_known old bytes

-- what was given grew by a prefix of these bytes
pub record GavePrefix (old new : Option (List ℕ)) (bytes : List ℕ) : Type 0 where
  pub front : List ℕ
  pub back : List ℕ
  pub whole : bytes ≡ front ++ back
  pub gave : GaveAll old new front

-- these bytes were taken from the front of what is left
abbrev pub TookAll : Option (List ℕ) → Option (List ℕ) → List ℕ → Type 0
TookAll old new bytes = old ≡ prepend_known bytes new
