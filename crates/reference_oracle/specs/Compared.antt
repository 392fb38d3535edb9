-- What is compared of a call and of the reference's answer, as the code keeps both: by their rows, by the effect of the
-- call, and by the column of places.
use Rattle.std.specs.Prelude.{◌≡◌, ℕ, List, Option}
use Rattle.core_program.specs.{Agree.EndedByItself, Run.Call}
use Rattle.effect_log.specs.declared.by_maps.Footprint.{Footprint}
use Rattle.call_tree.specs.declared.records.Call as table
use Rattle.reference_oracle.specs.{Fitting.Asked, Matches.matches, declared.verdicts.Verdict.Verdict}
use Rattle.reference_oracle.specs.Answers.{SameWay, bytes_given, items_taken}
use Rattle.reference_oracle.specs.Places.{AreLeftSame, ArePlaces}
use Rattle.reference_oracle.specs.declared.verdicts.Verdict.TheVariants.{NoAnswer, Right, Unfit, Wrong}

-- the row and the effect of a call; the row of the answer, and what was given with it; and where the cells of matching
-- variables are
pub record Compared : Type 0 where
  pub row : table.Call
  pub found : Footprint
  pub first : table.Call
  pub output : List ℕ
  pub places : List (Option ℕ)

abbrev pub compared : table.Call → Footprint → (first : table.Call) → (output : List ℕ) → (places : List (Option ℕ))
    → Compared
compared row found first output places = record {
  row = row;
  found = found;
  first = first;
  output = output;
  places = places;
}

-- the reference did what the call did
pub record IsSameByRows (x : Compared) : Type 0 where
  pub way : SameWay x.row.way x.first.way
  pub result : x.first.result ≡ x.row.result
  pub cells : AreLeftSame x.places x.row.exit.store x.first.exit.store
  pub taken : x.first.exit.place ≡ x.found.taken
  pub given : x.output ≡ x.found.given

-- what is said then
abbrev pub SaysByRows : Compared → Verdict → Type 0
SaysByRows x Unfit = ⊥
SaysByRows x (NoAnswer way) = (EndedByItself x.first.way → ⊥) × (x.first.way ≡ way)
SaysByRows x Right = EndedByItself x.first.way × IsSameByRows x
SaysByRows x Wrong = EndedByItself x.first.way × (IsSameByRows x → ⊥)

-- this is what is kept of a call and of its answer
pub record IsComparisonOf (a : Asked) (d : Call) (x : Compared) : Type 0 where
  pub way : x.row.way ≡ a.call.way
  pub result : x.row.result ≡ a.call.result
  pub cells : x.row.exit.store ≡ a.call.exit.cells
  pub taken : x.found.taken ≡ items_taken a.call
  pub given : x.found.given ≡ bytes_given a.call
  pub other_way : x.first.way ≡ d.way
  pub other_result : x.first.result ≡ d.result
  pub other_cells : x.first.exit.store ≡ d.exit.cells
  pub other_taken : x.first.exit.place ≡ items_taken d
  pub other_given : x.output ≡ bytes_given d
  pub places : ArePlaces (matches a.programs) x.places
