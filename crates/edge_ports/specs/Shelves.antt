-- What contracts see of a keeper in memory.
use Rattle.std.specs.Prelude.{ℕ, ⊤, Bool, Err, List, Ok, Result, false, refl, true}
use Rattle.std.specs.Coded.{Coded, code_by, coded_list, coded_ℕ, coded×}
use Rattle.std.specs.FinMap.{code, empty, insert}
use Rattle.edge_ports.specs.{Files.FileMap, States.PlanState, States.plan_after, States.plan_of}
use Rattle.edge_ports.specs.Counts.{KeeperCounts, counts_after, counts_stored, no_counts}
use Rattle.edge_ports.specs.declared.ports.{FetchFault.FetchFault, StoreFault.StoreFault}
use Rattle.edge_ports.specs.declared.ports.FetchFault.TheVariants.{Absent, Failed, Memory, TooLong}

-- the files, which calls are to fail, and how often one went wrong
pub record ShelfState : Type 0 where
  pub files : FileMap
  pub plan : PlanState
  pub counts : KeeperCounts

-- a shelf with no files
abbrev pub empty_shelf : List ℕ → ShelfState
empty_shelf fails = record { files = empty; plan = plan_of fails; counts = no_counts }

-- the fetch failed
abbrev pub has_failed : Result (List ℕ) FetchFault → Bool
has_failed (Ok bytes) = false
has_failed (Err Failed) = true
has_failed (Err Absent) = false
has_failed (Err (TooLong limit)) = false
has_failed (Err Memory) = false

-- the shelf after a fetch with this answer
abbrev pub shelf_after : Result (List ℕ) FetchFault → ShelfState → ShelfState
shelf_after answer shelf = record shelf {
  plan = plan_after (has_failed answer) shelf.plan;
  counts = counts_after answer shelf.counts;
}

-- the storing failed
abbrev pub has_not_stored : Result ⊤ StoreFault → Bool
has_not_stored (Ok _) = false
has_not_stored (Err StoreFault.Failed) = true
has_not_stored (Err StoreFault.Memory) = false

-- the files after one was to be stored, with this answer: it is there exactly where the answer is Ok
abbrev pub files_stored : Result ⊤ StoreFault → List ℕ → List ℕ → FileMap → FileMap
files_stored (Ok _) name bytes files = insert files name bytes
files_stored (Err fault) name bytes files = files

-- the shelf after a file was to be stored, with this answer
abbrev pub shelf_stored : Result ⊤ StoreFault → List ℕ → List ℕ → ShelfState → ShelfState
shelf_stored answer name bytes shelf = record {
  files = files_stored answer name bytes shelf.files;
  plan = plan_after (has_not_stored answer) shelf.plan;
  counts = counts_stored answer shelf.counts;
}

-- a plan is stored as its fields
abbrev pub plan_code : Coded PlanState
plan_code =
    code_by (List ℕ × (ℕ × ℕ))
    (coded× (coded_list coded_ℕ) (coded× coded_ℕ coded_ℕ))
    (λ p. (p.fails, (p.calls, p.faults)))
    (λ t. record { fails = t.0; calls = t.1.0; faults = t.1.1 })
    (λ _. refl)

-- counts are stored as their fields
abbrev pub counts_code : Coded KeeperCounts
counts_code =
    code_by (ℕ × (ℕ × (ℕ × ℕ)))
    (coded× coded_ℕ (coded× coded_ℕ (coded× coded_ℕ coded_ℕ)))
    (λ c. (c.faults, (c.misses, (c.overs, c.stores))))
    (λ t. record { faults = t.0; misses = t.1.0; overs = t.1.1.0; stores = t.1.1.1 })
    (λ _. refl)

-- a shelf is stored as its fields
abbrev pub shelf_code : Coded ShelfState
shelf_code =
    code_by (FileMap × (PlanState × KeeperCounts))
    (coded× (code (coded_list coded_ℕ) (coded_list coded_ℕ)) (coded× plan_code counts_code))
    (λ s. (s.files, (s.plan, s.counts)))
    (λ t. record { files = t.0; plan = t.1.0; counts = t.1.1 })
    (λ _. refl)
