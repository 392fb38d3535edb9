-- Regions by the tokens at which they begin.
use Rattle.std.specs.Prelude.{◌≡◌, ℕ, Bool, List, None, Option, Some, drop, nat_eq, position, suc}
use Rattle.check_steps.specs.Regions.{RegionRows}

abbrev pub begins_at : ℕ → RegionRows → Bool
begins_at token r = nat_eq token r.token

abbrev pub after_outermost : Option ℕ → Option ℕ
after_outermost None = None
after_outermost (Some n) = Some (suc n)

-- The number of the region that begins at a token. Region 0 is the outermost one, which begins at none.
abbrev pub region_beginning : List RegionRows → ℕ → Option ℕ
region_beginning regions token = after_outermost (position (begins_at token) (drop 1 regions))

-- This function gives the number of the region that begins at each token.
pub record HasRegions (regions : List RegionRows) (starts : ℕ → Option ℕ) : Type 0 where
  pub each : (token : ℕ) → starts token ≡ region_beginning regions token
