-- What holds of a sink that is called no more once a call failed.
use Rattle.std.specs.Prelude.{◌++◌, ◌≡◌, ℕ, Bool, List, Option, false, true}
use Rattle.edge_ports.specs.{Counts.Rose, Printouts.Printout, Told.GaveAll, Told.GavePrefix}

-- what is told of the outside
pub record Telling : Type 0 where
  pub given : Option (List ℕ)
  pub faults : ℕ
  pub last_failed : Bool
  pub loan : ℕ

-- all of the text was given
pub record GaveText (printout : Printout) (telling : Telling) : Type 0 where
  pub gave : GaveAll printout.began.given telling.given printout.text
  pub calm : telling.faults ≡ printout.began.faults
  pub loan : telling.loan ≡ printout.began.loan

-- a first part of the text was given, and then a call failed, the last one
pub record GavePart (printout : Printout) (telling : Telling) : Type 0 where
  pub gave : GavePrefix printout.began.given telling.given printout.text
  pub cause : Rose printout.began.faults telling.faults
  pub last : telling.last_failed ≡ true
  pub loan : telling.loan ≡ printout.began.loan

abbrev pub Sticks : (failed : Bool) → Printout → Telling → Type 0
Sticks false printout telling = GaveText printout telling
Sticks true printout telling = GavePart printout telling

-- the text with these bytes after it
abbrev pub with_more : Printout → List ℕ → Printout
with_more printout bytes = record printout { text = printout.text ++ bytes }

-- the text that is printed, what is told of the outside, and whether a call failed since the text began
pub record Sticky : Type 0 where
  pub printout : Printout
  pub telling : Telling
  pub failed : Bool
