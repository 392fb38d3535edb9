-- What is printed, and what a printer told of the outside before.
use Rattle.std.specs.Prelude.{◌++◌, ◌≡◌, ℕ, List, Option}

-- what was told when a text began: the bytes that were given, how often the outside failed, and the name of the loan of
-- the room that the bytes go to
pub record Beginning : Type 0 where
  pub given : Option (List ℕ)
  pub faults : ℕ
  pub loan : ℕ

-- the text that was printed since it began, whether or not the outside took it
pub record Printout : Type 0 where
  pub began : Beginning
  pub text : List ℕ

-- the text grew by these bytes, and nothing began anew
abbrev pub Prints : Printout → Printout → List ℕ → Type 0
Prints old new bytes = (new.text ≡ old.text ++ bytes) × (new.began ≡ old.began)

-- of all these bytes the text grew by those before the rest, and nothing began anew
abbrev pub PrintsAllBut : Printout → (all : List ℕ) → Printout → (rest : List ℕ) → Type 0
PrintsAllBut old all new rest = (new.text ++ rest ≡ old.text ++ all) × (new.began ≡ old.began)
