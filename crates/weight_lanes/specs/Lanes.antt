-- What the lanes of a vector and the bits of a mask say.
use Rattle.std.specs.Prelude.{if◌then◌else◌, ◌<◌, ◌==◌, ◌≡◌, ◌≤◌, ◌⊎◌, ℕ, List, length, slice_index}
use Rattle.std.specs.Int.{bit_at}
use Rattle.weight_lanes.specs.Places.{left_at}

-- bit by bit, at which of the first `count` lanes P holds
pub record MarksLanes (P : ℕ → Type 0) (count mask : ℕ) : Type 0 where
  pub marked : (lane : ℕ) → lane < count → P lane → bit_at mask lane ≡ 1
  pub inside : (lane : ℕ) → bit_at mask lane ≡ 1 → lane < count
  pub holds : (lane : ℕ) → bit_at mask lane ≡ 1 → P lane

-- a vector of 16 lanes, of which each holds what f gives
pub record HasLanes (f : ℕ → ℕ) (lanes : List ℕ) : Type 0 where
  pub long : length lanes ≡ 16
  pub each : (lane : ℕ) → lane < 16 → slice_index lanes lane ≡ f lane

-- at no place from `from` up to `to` Q holds
pub record NoneIn (Q : ℕ → Type 0) (from to : ℕ) : Type 0 where
  pub none : (place : ℕ) → from ≤ place → place < to → ¬ Q place

-- the first place below `count` at which Q holds
pub record IsFirstBelow (Q : ℕ → Type 0) (count place : ℕ) : Type 0 where
  pub inside : place < count
  pub holds : Q place
  pub before : NoneIn Q 0 place

-- 2 ^ 32 - 1, or a number that f gives below `count`
abbrev pub IsTaken : (ℕ → ℕ) → ℕ → ℕ → Type 0
IsTaken f count number = (number ≡ 4294967295) ⊎ ((place : ℕ) × (place < count) × (f place ≡ number))

-- the least of 2 ^ 32 - 1 and the numbers that f gives below `count`
pub record IsLeastBelow (f : ℕ → ℕ) (count least : ℕ) : Type 0 where
  pub below : (place : ℕ) → place < count → least ≤ f place
  pub taken : IsTaken f count least

-- how many suspects the worse answer leaves, at a place that may be asked about, and 2 ^ 32 - 1, which is more than any
-- such number, at any other place
abbrev pub lane_number : List ℕ → List ℕ → ℕ → ℕ → ℕ
lane_number weights askable total place =
    if slice_index askable place == 0 then 4294967295 else left_at weights total place

-- the place has this number
abbrev pub HasNumber : List ℕ → List ℕ → ℕ → ℕ → ℕ → Type 0
HasNumber weights askable total number place = lane_number weights askable total place ≡ number
