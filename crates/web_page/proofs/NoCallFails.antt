-- Where a keeper's count of faults did not rise, no store that it was asked for failed, and no fetch did.
use Rattle.std.proofs.Common.{◌<◌, ◌∷◌, ◌≡◌, [], ℕ, All, List, Option, Some, arith, false, refl, true}
use Rattle.std.proofs.lemmas.List.Elements.{All-cons, All-nil}
use Rattle.edge_ports.specs.{Counts.KeeperCounts, declared.ports.FetchFault.FetchFault}
use Rattle.ask_session.specs.{Dialog.Fetched, Dialog.Granted, Dialog.Missing, Dialog.Stored, Wishes.counts_given, Wishes.counts_granted}
use Rattle.web_page.specs.Promises.{WentWell}

-- a count of faults that is not 0 stays so
stays : (granted : List Granted) (counts : KeeperCounts) → 0 < counts.faults → 0 < (counts_granted granted counts).faults
stays [] counts h = h
stays (Stored true ∷ granted) counts h = stays granted _ h
stays (Stored false ∷ granted) counts h = stays granted _ (omega arith)
stays (Fetched bytes reading ∷ granted) counts h = stays granted _ h
stays (Missing FetchFault.Absent ∷ granted) counts h = stays granted _ h
stays (Missing (FetchFault.TooLong limit) ∷ granted) counts h = stays granted _ h
stays (Missing FetchFault.Failed ∷ granted) counts h = stays granted _ (omega arith)
stays (Missing FetchFault.Memory ∷ granted) counts h = stays granted _ h

pub all_went_well : (granted : List Granted) (counts : KeeperCounts) → counts.faults ≡ 0 → (counts_granted granted counts).faults ≡ 0
    → All WentWell granted
all_went_well [] counts first last = All-nil WentWell
all_went_well (Stored true ∷ granted) counts first last =
    All-cons WentWell (Stored true) granted refl (all_went_well granted _ first last)
all_went_well (Stored false ∷ granted) counts first last =
    absurd (omega (arith, last, stays granted (counts_given (Stored false) counts) (omega arith)))
all_went_well (Fetched bytes reading ∷ granted) counts first last =
    All-cons WentWell (Fetched bytes reading) granted tt (all_went_well granted _ first last)
all_went_well (Missing FetchFault.Absent ∷ granted) counts first last =
    All-cons WentWell (Missing FetchFault.Absent) granted tt (all_went_well granted _ first last)
all_went_well (Missing (FetchFault.TooLong limit) ∷ granted) counts first last =
    All-cons WentWell (Missing (FetchFault.TooLong limit)) granted tt (all_went_well granted _ first last)
all_went_well (Missing FetchFault.Failed ∷ granted) counts first last =
    absurd (omega (arith, last, stays granted (counts_given (Missing FetchFault.Failed) counts) (omega arith)))
all_went_well (Missing FetchFault.Memory ∷ granted) counts first last =
    All-cons WentWell (Missing FetchFault.Memory) granted tt (all_went_well granted _ first last)

pub same_bytes : (a b : List ℕ) → ◌≡◌ {A = Option (List ℕ)} (Some a) (Some b) → a ≡ b
same_bytes a b e = cc
