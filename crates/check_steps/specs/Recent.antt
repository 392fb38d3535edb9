-- What was found of a name where it was looked up last.
use Rattle.std.specs.Prelude.{◌<◌, ◌≡◌, ℕ, List, None, Option, Some, length, nat_eq, suc, zero}
use Rattle.std.specs.Map.{lookup}
use Rattle.check_steps.specs.{Frames.frame_in, Known.found_with, Regions.RegionRows, Regions.defined_in}
use Rattle.check_steps.specs.{Regions.or_else, declared.regions.Found.Found, declared.regions.Frame.Frame}
use Rattle.check_steps.specs.declared.recent.{FromFrame.FromFrame, Recalled.Recalled}

-- `find` by regions and frames alone
abbrev pub find_in_from : ℕ → List RegionRows → List Frame → Option ℕ → ℕ → Option Found
find_in_from n regions frames None name = None
find_in_from zero regions frames (Some f) name = None
find_in_from (suc n) regions frames (Some f) name = or_else
    (found_with f (defined_in regions (frame_in frames f).region name))
    (find_in_from n regions frames (frame_in frames f).outer name)

abbrev pub find_in : List RegionRows → List Frame → ℕ → ℕ → Option Found
find_in regions frames f name = find_in_from (length frames) regions frames (Some f) name

-- There is such a frame, and that is found of the name from it.
unfoldable pub IsFound : List RegionRows → List Frame → ℕ → FromFrame → Type 0
IsFound regions frames name f = (f.frame < length frames) × (find_in regions frames f.frame name ≡ f.found)

-- What is recalled of each name is what is found of it.
unfoldable pub AreRecalled : List RegionRows → List Frame → List (ℕ × Recalled) → Type 0
AreRecalled regions frames recalled = (name : ℕ) (r : Recalled) → lookup (nat_eq name) recalled ≡ Some r
    → IsFound regions frames name r.near × IsFound regions frames name r.far
