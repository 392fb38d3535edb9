-- What contracts see of the outside of a turn: what is not here cannot happen.
use Rattle.std.specs.Prelude.{◌≡◌, [], ℕ, List, refl}
use Rattle.std.specs.Coded.{Coded, code_by, coded_list, coded_ℕ, coded×}
use Rattle.std.specs.FinMap.{code}
use Rattle.edge_ports.specs.{Counts.KeeperCounts, Files.FileMap, Shelves.ShelfState}
use Rattle.web_page.specs.Given.{TurnGiven, turn_files}

-- the files of a turn, how often one was absent or too long, and how often one was to be stored
pub record FilesState : Type 0 where
  pub files : FileMap
  pub misses : ℕ
  pub overs : ℕ
  pub stores : ℕ

-- no call failed
abbrev pub counts_of : FilesState → KeeperCounts
counts_of f = record { faults = 0; misses = f.misses; overs = f.overs; stores = f.stores }

-- the files on a shelf
abbrev pub state_of : ShelfState → FilesState
state_of s = record { files = s.files; misses = s.counts.misses; overs = s.counts.overs; stores = s.counts.stores }

-- no call of the shelf is to fail, and none did
pub record NeverFails (s : ShelfState) : Type 0 where
  pub plan : s.plan.fails ≡ []
  pub counts : s.counts.faults ≡ 0

-- before the command begins
abbrev pub files_at_start : TurnGiven → FilesState
files_at_start g = record { files = turn_files g; misses = 0; overs = 0; stores = 0 }

-- the files of a turn are stored as their fields
abbrev pub files_state_code : Coded FilesState
files_state_code =
    code_by (FileMap × (ℕ × (ℕ × ℕ)))
    (coded× (code (coded_list coded_ℕ) (coded_list coded_ℕ)) (coded× coded_ℕ (coded× coded_ℕ coded_ℕ)))
    (λ f. (f.files, (f.misses, (f.overs, f.stores))))
    (λ t. record { files = t.0; misses = t.1.0; overs = t.1.1.0; stores = t.1.1.1 })
    (λ _. refl)
