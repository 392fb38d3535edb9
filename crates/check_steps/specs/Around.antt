-- The innermost frame of a region around a frame, and what is kept to tell it at once.
use Rattle.std.specs.Prelude.{if◌then◌else◌, ◌<◌, ◌≡◌, ◌≤◌, ℕ, ⊤, Bool, List, None, Option, Some, false, fold, is_some}
use Rattle.std.specs.Prelude.{length, nat_eq, nat_lt, slice_get, suc, true, unwrap_or, zero}
use Rattle.std.specs.List.{list_any}
use Rattle.check_steps.specs.{Frames.frame_in, declared.regions.Frame.Frame}

-- the first of at most this many frames outward whose region passes the test
abbrev pub first_around : ℕ → List Frame → (ℕ → Bool) → Option ℕ → Option ℕ
first_around n fs test None = None
first_around zero fs test (Some f) = None
first_around (suc n) fs test (Some f) =
    if test (frame_in fs f).region then Some f else first_around n fs test (frame_in fs f).outer

-- whether a frame is of a region, or is inside of one of its frames: outward numbers fall
abbrev pub is_around : List Frame → ℕ → ℕ → Bool
is_around fs frame region = is_some (first_around (suc frame) fs (nat_eq region) (Some frame))

-- whether a region is one of these
abbrev pub is_among : List ℕ → ℕ → Bool
is_among regions r = list_any (λ x. nat_eq x r) regions

-- ---- the code's side

-- a number that is greater than that of the frame
abbrev pub reach : Option ℕ → ℕ
reach None = 0
reach (Some f) = suc f

-- the first frame outward, where numbers fall outward
abbrev pub around : List Frame → (ℕ → Bool) → Option ℕ → Option ℕ
around fs test at = first_around (reach at) fs test at

-- Each frame comes after the one around it.
unfoldable pub Falls : List Frame → Type 0
Falls fs = (f : ℕ) → reach (frame_in fs f).outer ≤ f

abbrev pub kept_in : List (Option ℕ) → ℕ → Option ℕ
kept_in kept n = unwrap_or (slice_get kept n) None

-- the greater of two numbers, where there is one
abbrev pub later : Option ℕ → Option ℕ → Option ℕ
later None b = b
later (Some a) None = Some a
later (Some a) (Some b) = if nat_lt a b then Some b else Some a

-- the greatest of what is kept for these regions
abbrev pub latest : List (Option ℕ) → List ℕ → Option ℕ
latest kept regions = fold (λ best r. later best (kept_in kept r)) None regions

-- Of each frame the next one outward of its region is kept, and of each region the innermost frame around one.
pub record IsBook (fs : List Frame) (shadowed innermost : List (Option ℕ)) (at : Option ℕ) : Type 0 where
  pub falls : (f : ℕ) → reach (frame_in fs f).outer ≤ f
  pub within : reach at ≤ length fs
  pub as_many : length shadowed ≡ length fs
  pub shadows : (f : ℕ) → f < length fs
      → kept_in shadowed f ≡ around fs (nat_eq (frame_in fs f).region) (frame_in fs f).outer
  pub inner : (r : ℕ) → kept_in innermost r ≡ around fs (nat_eq r) at

-- what is kept is so, unless it was given up
unfoldable pub IsKept : Bool → List Frame → List (Option ℕ) → List (Option ℕ) → Option ℕ → Type 0
IsKept false fs shadowed innermost at = ⊤
IsKept true fs shadowed innermost at = IsBook fs shadowed innermost at
