-- Regions as a contract sees them.
use Rattle.std.specs.Prelude.{[], ℕ, List, None, Option, Some, nat_eq, slice_get, unwrap_or}
use Rattle.std.specs.Map.{lookup}
use Rattle.check_steps.specs.declared.regions.Definition.{Definition}

-- what a region defines, in the order of the definitions
pub record RegionRows : Type 0 where
  -- the token at which it begins
  pub token : ℕ
  -- its own frame
  pub frame : ℕ
  -- definitions by the numbers of their names
  pub names : List (ℕ × Definition)
  -- tokens that declare labels by the labels' values
  pub labels : List (ℕ × ℕ)

-- the region that begins at a token and has a frame, before anything is defined in it
abbrev pub fresh_region : ℕ → ℕ → RegionRows
fresh_region token frame = record { token = token; frame = frame; names = []; labels = [] }

abbrev pub region_at : List RegionRows → ℕ → RegionRows
region_at regions r = unwrap_or (slice_get regions r) (fresh_region 0 0)

-- what a region itself defines a name as
abbrev pub defined_in : List RegionRows → ℕ → ℕ → Option Definition
defined_in regions r name = lookup (nat_eq name) (region_at regions r).names

-- the token at which a region itself declares a label of this value
abbrev pub declared_in : List RegionRows → ℕ → ℕ → Option ℕ
declared_in regions r value = lookup (nat_eq value) (region_at regions r).labels

abbrev pub or_else : {A : Type 0} → Option A → Option A → Option A
or_else (Some x) y = Some x
or_else None y = y
