-- What became of what is outside of the command.
use Rattle.std.specs.Prelude.{◌≡◌, ◌≢◌, ◌⊎◌, ℕ, Err, List, Option}
use Rattle.edge_ports.specs.{Files.FileMap, declared.ports.FetchFault.FetchFault}
use Rattle.edge_ports.specs.Counts.{CountsFetch, KeeperCounts}
use Rattle.ask_session.specs.{Console.NotRisen, Outside.Outside}

-- what is outside: the keeper's files and its counts, what the console has left, and what the screen was given
abbrev pub outside : Option FileMap → KeeperCounts → (left given : Option (List ℕ)) → Outside
outside files counts left given =
    record { files = files; counts = counts; streams = record { left = left; given = given } }

-- no file was stored, and nothing was taken of the console
pub record LeavesAlone (before after : Outside) : Type 0 where
  pub files : after.files ≡ before.files
  pub left : after.streams.left ≡ before.streams.left

-- a keeper's counts after fetches none of which came after one that failed: they stay, or the one rises that says why a
-- file was not fetched, and no other
abbrev pub CountsOneFault : KeeperCounts → KeeperCounts → Type 0
CountsOneFault before now = (now ≡ before) ⊎ ((fault : FetchFault) × CountsFetch (Err fault) before now)

-- no count of a keeper rose, and none stands at its last value
pub record NoneRisen (before now : KeeperCounts) : Type 0 where
  pub faults : NotRisen before.faults now.faults
  pub misses : NotRisen before.misses now.misses
  pub overs : NotRisen before.overs now.overs

-- The keeper was asked to store a file, or something was taken of the console: both come after the fetches of all files
-- that the words name.
abbrev pub WentOn : (before now : KeeperCounts) → (left left' : Option (List ℕ)) → Type 0
WentOn before now left left' = (now.stores ≢ before.stores) ⊎ (left' ≢ left)

-- No fetch of a file that the words name failed: no call of the keeper did, or the session went on past these fetches.
-- What lines of the console ask of the keeper may have failed then.
abbrev pub NoFetchFailed : (before now : KeeperCounts) → (left left' : Option (List ℕ)) → Type 0
NoFetchFailed before now left left' = NotRisen before.faults now.faults ⊎ WentOn before now left left'

-- the counts of what went wrong outside
pub record Faults : Type 0 where
  pub keeper : KeeperCounts
  pub console : ℕ
  pub screen : ℕ
