-- The room of a column with an element for each entry.
use Rattle.std.specs.Prelude.{◌≤◌, Vec, vec_capacity, vec_len}

-- there is room for 100,000 entries, and no more are in it
pub record HasRoom {X Z : Type 0} (items : Vec X Z) : Type 0 where
  pub room : 100000 ≤ vec_capacity items
  pub few : vec_len items ≤ 100000
