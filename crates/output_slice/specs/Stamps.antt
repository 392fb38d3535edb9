-- How a set of addresses is kept: a stamp for each address, and the stamp of those that are in the set.
use Rattle.std.specs.Prelude.{◌<◌, ◌≡◌, ◌≤◌, ℕ, List, length, slice_index}

pub record AreStamped (stamps : List ℕ) (stamp : ℕ) : Type 0 where
  pub each : length stamps ≡ 1048576
  pub some : 0 < stamp
  pub earlier : (a : ℕ) → slice_index stamps a ≤ stamp
