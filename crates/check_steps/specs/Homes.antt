-- By a name, or by a label's value, the regions that may define it.
use Rattle.std.specs.Prelude.{◌++◌, ◌∷◌, ◌≡◌, [], ℕ, List, None, Option, Some, false, nat_eq, slice_set}
use Rattle.std.specs.{Global.Vec, Map.lookup}
use Rattle.check_steps.specs.{Around.is_among, Regions.RegionRows, Regions.region_at}
use Rattle.check_steps.specs.declared.regions.{Definition.Definition, Region.Region}

abbrev pub regions_of : Option (Vec ℕ) → List ℕ
regions_of None = []
regions_of (Some regions) = regions.items

-- the regions of a number, and none where it has no list
abbrev pub homes_of : List (ℕ × Vec ℕ) → ℕ → List ℕ
homes_of homes n = regions_of (lookup (nat_eq n) homes)

-- All regions that have a row for a number are among its homes.
unfoldable pub AreHomes : {X : Type 0} → (RegionRows → List (ℕ × X)) → List RegionRows → List (ℕ × Vec ℕ) → Type 0
AreHomes rows regions homes = (n r : ℕ) → is_among (homes_of homes n) r ≡ false
    → lookup (nat_eq n) (rows (region_at regions r)) ≡ None

-- what a region that is kept in maps defines
abbrev pub rows_of : Region → RegionRows
rows_of r = record { token = r.token; frame = r.frame; names = r.names.entries; labels = r.labels.entries }

-- one more definition at the end of a region
abbrev pub with_definition : List RegionRows → ℕ → ℕ → Definition → List RegionRows
with_definition regions r name d = let region = region_at regions r in
    slice_set regions r (record region { names = region.names ++ (name, d) ∷ [] })

-- one more label at the end of a region
abbrev pub with_label : List RegionRows → ℕ → ℕ → ℕ → List RegionRows
with_label regions r value token = let region = region_at regions r in
    slice_set regions r (record region { labels = region.labels ++ (value, token) ∷ [] })
