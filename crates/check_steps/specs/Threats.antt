-- Where routines threaten variables of the blocks around them (6.8.3.9).
use Rattle.std.specs.Prelude.{if◌then◌else◌, ◌+◌, ◌<◌, ◌≡◌, ◌≤◌, ℕ, Bool, List, None, Option, Some, false, length}
use Rattle.std.specs.Prelude.{nat_eq, nat_lt, slice_get, slice_index_or, slice_set, suc, unwrap_or, zero}

abbrev pub is_variable_of : Option ℕ → ℕ → Bool
is_variable_of None variable = false
is_variable_of (Some threatened) variable = nat_eq threatened variable

-- whether a routine threatens a variable at a token
abbrev pub is_threat : List (Option ℕ) → ℕ → ℕ → Bool
is_threat threats variable token = is_variable_of (unwrap_or (slice_get threats token) None) variable

-- the first of this many tokens, from one on, at which a routine threatens a variable
abbrev pub first_threat : ℕ → List (Option ℕ) → ℕ → ℕ → Option ℕ
first_threat zero threats variable token = None
first_threat (suc n) threats variable token =
    if is_threat threats variable token then Some token else first_threat n threats variable (token + 1)

-- ---- the code's side

-- Of each variable: from one token on and before another no routine threatens it.
pub record AreUnthreatened (threats : List (Option ℕ)) (froms befores : List ℕ) : Type 0 where
  pub as_many : length froms ≡ length befores
  pub none : (variable token : ℕ) → slice_index_or froms variable 0 ≤ token
      → token < slice_index_or befores variable 0 → is_threat threats variable token ≡ false

-- This token is taken for the bound of a variable, if it is less than the bound.
abbrev pub lowered : List ℕ → ℕ → ℕ → List ℕ
lowered bounds variable token =
    if nat_lt token (slice_index_or bounds variable 0) then slice_set bounds variable token else bounds
