-- Counts of what went wrong outside: numbers of 64 bits that never fall, and stand still at the last one.
use Rattle.std.specs.Prelude.{◌+◌, ◌-◌, ◌^◌, ◌≡◌, ◌≤◌, ℕ, ⊤, Bool, Err, List, Ok, Result, false, min, true}
use Rattle.edge_ports.specs.declared.ports.{FetchFault.FetchFault, StoreFault.StoreFault}
use Rattle.edge_ports.specs.declared.ports.FetchFault.TheVariants.{Absent, Failed, Memory, TooLong}

-- one more, unless the count stands at its last value
abbrev pub next_count : ℕ → ℕ
next_count before = min (before + 1) (2 ^ 64 - 1)

-- the count rose by one, or stands at its last value
abbrev pub Rose : ℕ → ℕ → Type 0
Rose before now = now ≡ next_count before

-- the count has not fallen
abbrev pub NotFallen : ℕ → ℕ → Type 0
NotFallen before now = before ≤ now

-- the count after some calls of which the last one failed, or none did: it rose, or is what it was
abbrev pub Counted : Bool → ℕ → ℕ → Type 0
Counted true before now = Rose before now
Counted false before now = now ≡ before

-- how often a keeper's calls went wrong, by reason, and how often it was asked to store a file
pub record KeeperCounts : Type 0 where
  pub faults : ℕ  -- calls that failed
  pub misses : ℕ  -- files that were absent
  pub overs : ℕ  -- files that were too long
  pub stores : ℕ  -- calls that were to store a file, those that failed too

-- nothing has gone wrong yet, and nothing was to be stored
abbrev pub no_counts : KeeperCounts
no_counts = record { faults = 0; misses = 0; overs = 0; stores = 0 }

-- none of a keeper's counts has fallen
abbrev pub NoneFallen : KeeperCounts → KeeperCounts → Type 0
NoneFallen before now =
    NotFallen before.faults now.faults
    × NotFallen before.misses now.misses
    × NotFallen before.overs now.overs
    × NotFallen before.stores now.stores

-- a keeper's counts after a fetch with this answer: the one that says why it failed rose, and the others stay
abbrev pub counts_after : Result (List ℕ) FetchFault → KeeperCounts → KeeperCounts
counts_after (Ok bytes) counts = counts
counts_after (Err Failed) counts = record counts { faults = next_count counts.faults }
counts_after (Err Absent) counts = record counts { misses = next_count counts.misses }
counts_after (Err (TooLong limit)) counts = record counts { overs = next_count counts.overs }
counts_after (Err Memory) counts = counts

-- the counts rose as this answer says
abbrev pub CountsFetch : Result (List ℕ) FetchFault → KeeperCounts → KeeperCounts → Type 0
CountsFetch answer before now = now ≡ counts_after answer before

-- a keeper's counts after a file was to be stored, with this answer: one more such call, and one more that failed
-- where it did
abbrev pub counts_stored : Result ⊤ StoreFault → KeeperCounts → KeeperCounts
counts_stored (Ok _) counts = record counts { stores = next_count counts.stores }
counts_stored (Err StoreFault.Failed) counts =
    record counts { stores = next_count counts.stores; faults = next_count counts.faults }
counts_stored (Err StoreFault.Memory) counts = record counts { stores = next_count counts.stores }

-- the counts rose as this answer says
abbrev pub CountsStore : Result ⊤ StoreFault → KeeperCounts → KeeperCounts → Type 0
CountsStore answer before now = now ≡ counts_stored answer before
