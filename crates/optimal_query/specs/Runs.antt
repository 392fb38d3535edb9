-- The calls that may be asked about, from one number up to another, and the best of them. Runs of such calls stand
-- between the subtrees in which no suspect stands, which are those of the calls that weigh nothing and have calls below
-- them.
use Rattle.std.specs.Prelude.{if◌then◌else◌, ◌<◌, ◌≡◌, ◌≢◌, ◌≤◌, ℕ, List, None, Option, Some, length, nat_lt}
use Rattle.std.specs.Prelude.{slice_index}
use Rattle.weight_lanes.specs.declared.choice.Choice.{Choice}

-- the last call of each subtree, the weight of each call, the flags of those that nothing is said of, and how many
-- suspects there are; and from which call up to which the search goes
pub record Field : Type 0 where
  pub last : List ℕ
  pub weights : List ℕ
  pub askable : List ℕ
  pub total : ℕ
  pub start : ℕ
  pub end : ℕ

abbrev pub field_of : List ℕ → List ℕ → List ℕ → ℕ → ℕ → ℕ → Field
field_of last weights askable total start end =
    record { last = last; weights = weights; askable = askable; total = total; start = start; end = end }

-- nothing is said of the call, and it stands in no subtree that weighs nothing
pub record MayBeAsked (field : Field) (call : ℕ) : Type 0 where
  pub unsaid : slice_index field.askable call ≢ 0
  pub free : (above : ℕ) → field.start ≤ above → above ≤ call → slice_index field.weights above ≡ 0
      → slice_index field.last above < call

-- the subtrees from the start to the end are intervals there, one within another or apart; a call that nothing is said
-- of weighs something, and none that is open weighs more than all suspects
pub record IsField (field : Field) : Type 0 where
  pub weighed : length field.weights ≡ length field.last
  pub flagged : length field.askable ≡ length field.last
  pub order : field.start ≤ field.end
  pub inside : field.end ≤ length field.last
  pub from_itself : (call : ℕ) → call < length field.last → call ≤ slice_index field.last call
  pub within : (call : ℕ) → field.start ≤ call → call < field.end → slice_index field.last call < field.end
  pub nested : (above call : ℕ) → above ≤ call → call ≤ slice_index field.last above
      → slice_index field.last call ≤ slice_index field.last above
  pub weigh : (call : ℕ) → field.start ≤ call → call < field.end → slice_index field.askable call ≢ 0
      → 1 ≤ slice_index field.weights call
  pub few : (call : ℕ) → field.start ≤ call → call < field.end → MayBeAsked field call
      → slice_index field.weights call ≤ field.total

-- of the calls from `from` up to `to` that have the property this is the first with the least value
pub record IsBestFrom (P : ℕ → Type 0) (value : ℕ → ℕ) (from to : ℕ) (choice : Choice) : Type 0 where
  pub from_here : from ≤ choice.at
  pub inside : choice.at < to
  pub holds : P choice.at
  pub left_is : choice.left ≡ value choice.at
  pub least : (call : ℕ) → from ≤ call → call < to → P call → choice.left ≤ value call
  pub first : (call : ℕ) → from ≤ call → call < choice.at → P call → choice.left < value call

-- or none has it
abbrev pub IsBestAmong : (ℕ → Type 0) → (ℕ → ℕ) → ℕ → ℕ → Option Choice → Type 0
IsBestAmong P value from to None = (call : ℕ) → from ≤ call → call < to → ¬ P call
IsBestAmong P value from to (Some choice) = IsBestFrom P value from to choice

-- the better of two choices; of equals the first
abbrev pub better_of : Option Choice → Option Choice → Option Choice
better_of None next = next
better_of (Some best) None = Some best
better_of (Some best) (Some next) = if nat_lt next.left best.left then Some next else Some best

-- the best so far leaves no more than this
abbrev pub LeavesNoMore : Option Choice → ℕ → Type 0
LeavesNoMore None left = ⊥
LeavesNoMore (Some best) left = best.left ≤ left

-- the call stands in the subtree of a call from `from` up to `to` that weighs nothing
pub record IsBelowWeightless (last weights : List ℕ) (from to call : ℕ) : Type 0 where
  pub above : ℕ
  pub from_here : from ≤ above
  pub inside : above < to
  pub weightless : slice_index weights above ≡ 0
  pub reaches : call ≤ slice_index last above
