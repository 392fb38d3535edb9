-- What a pass back over pieces of a call leaves.
use Rattle.std.specs.Prelude.{◌++◌, ◌≡◌, ℕ, Bool, List, Some}
use Rattle.std.specs.List.{slice_get}
use Rattle.core_program.specs.{Run.Call, Run.Marked, Run.Result, State.State}
use Rattle.program_run.specs.declared.history.History.{History}
use Rattle.output_slice.specs.{KeptRuns.IsKeptRun, Pieces.pieces_of}
use Rattle.output_slice.specs.Backward.{Back, Wanted, back, before_child, used_of, with_number}
use Rattle.output_slice.specs.Needed.{AreGathered, AreWanted, wants_alone}
use Rattle.output_slice.specs.declared.{needs.Needs.Needs, outputs.Output.Output, used.Gathered.Gathered}

abbrev pub PairList : Type 0
PairList = List (ℕ × Output)

-- this is wanted, and these pairs came to those before
pub record IsPassed (needs : Needs) (before after : PairList) (b : Back) : Type 0 where
  pub wanted : AreWanted needs b.wanted
  pub pairs : after ≡ before ++ b.pairs

-- a call that was made was passed, where these outputs of the caller are wanted and this is wanted after it
abbrev pub passed_child : (Output → Bool) → (number : ℕ) → Call → Wanted → Back
passed_child wants number c w = record {
  wanted = before_child c (used_of wants w c) w;
  pairs = with_number number (used_of wants w c);
}

-- what a pass has: what is wanted, and the pairs so far
pub record Passing : Type 0 where
  pub needs : Needs
  pub pairs : PairList

-- so it is with the call of this number of the run that is kept
abbrev pub PassesChild : History → ℕ → Gathered → (old new : Passing) → Type 0
PassesChild h number gathered old new = (r : Result State Call) → IsKeptRun h r → (e : Marked Call)
    → slice_get r.events number ≡ Some e → (wants : Output → Bool) → AreGathered wants gathered
    → (w : Wanted) → AreWanted old.needs w
    → IsPassed new.needs old.pairs new.pairs (passed_child wants number e.event w)

-- and a whole call was passed
abbrev pub PassesCall : History → ℕ → Gathered → (old new : Passing) → Type 0
PassesCall h number gathered old new = (r : Result State Call) → IsKeptRun h r → (e : Marked Call)
    → slice_get r.events number ≡ Some e → (wants : Output → Bool) → AreGathered wants gathered
    → AreWanted old.needs (wants_alone wants)
    → IsPassed new.needs old.pairs new.pairs (back wants (pieces_of r number e))
