-- What is outside of a dialog, at one moment.
use Rattle.std.specs.Prelude.{ℕ, List, Option}
use Rattle.edge_ports.specs.{Counts.KeeperCounts, Files.FileMap}

-- the bytes that the console has left, and those that the screen was given, where they tell them
pub record Streams : Type 0 where
  pub left : Option (List ℕ)
  pub given : Option (List ℕ)

-- the keeper's files, where it tells them, and its counts; and the streams
pub record Outside : Type 0 where
  pub files : Option FileMap
  pub counts : KeeperCounts
  pub streams : Streams
