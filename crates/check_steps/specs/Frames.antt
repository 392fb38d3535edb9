-- Frames by their numbers, and frames of one region in a row.
use Rattle.std.specs.Prelude.{◌<◌, ◌≡◌, ℕ, List, None, Option, Some, length, map, slice_get, suc, unwrap_or, zero}
use Rattle.check_steps.specs.declared.{frames.KeptFrame.KeptFrame, regions.Frame.Frame}

-- the frame of a number, and the outermost where there is none
abbrev pub frame_in : List Frame → ℕ → Frame
frame_in fs n = unwrap_or (slice_get fs n) (record { region = 0; outer = None; level = 0; withs = 0 })

-- This many frames, each around the one before it and all of one region, lead from a first one to another or to none.
unfoldable pub Leads : List Frame → ℕ → ℕ → Option ℕ → Option ℕ → Type 0
Leads fs region zero at next = at ≡ next
Leads fs region (suc passed) None next = ⊥
Leads fs region (suc passed) (Some f) next =
    (f < length fs) × ((frame_in fs f).region ≡ region) × Leads fs region passed (frame_in fs f).outer next

abbrev pub frame_of : KeptFrame → Frame
frame_of k = k.frame

-- With each frame is kept where one comes from it past frames of its own region.
unfoldable pub IsChained : List KeptFrame → Type 0
IsChained ks = (n : ℕ) (k : KeptFrame) → slice_get ks n ≡ Some k
    → Leads (map frame_of ks) k.frame.region k.beyond.passed k.frame.outer k.beyond.to
