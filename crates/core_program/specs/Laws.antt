-- What holds of every run.
use Rattle.std.specs.Prelude.{◌+◌, ◌<◌, ◌↔◌, ◌≡◌, ◌≤◌, ℕ, IsSome, List, None, Some, length}
use Rattle.std.specs.List.{All}
use Rattle.cell_value.specs.declared.values.Value.{Value}
use Rattle.core_program.specs.{ProgramRows.ProgramRows, ProgramRows.routine_at, State.State, WholeTables.WholeTables}
use Rattle.core_program.specs.Numbering.{InSubtree, StandsAt, belows, depth_of, last_below, parent_of}
use Rattle.core_program.specs.Run.{Call, Result, block, call_of, depth_enough, run, run_of, start}

-- Every program with whole tables has a run with every input and budget: no state of a run comes to a row that is
-- missing or of the wrong kind, nor to a list that does not end as it says.
abbrev pub EveryProgramRuns : Type 0
EveryProgramRuns = (p : ProgramRows) → WholeTables p → (input : List ℕ) (budget : ℕ) → IsSome (run p input budget)

-- and so has every call of a routine that is there, from every state, also one that no run reaches
abbrev pub EveryCallRuns : Type 0
EveryCallRuns = (p : ProgramRows) → WholeTables p → (routine : ℕ) (args : List Value) (σ : State) (depth : ℕ)
    → IsSome (routine_at p routine) → depth_enough p σ.steps ≤ depth
    → IsSome (call_of p (run_of p depth) routine args σ)

-- where parts and calls may stand deeper in one another, the run is the same
abbrev pub DepthIsEnough : Type 0
DepthIsEnough = (p : ProgramRows) → WholeTables p → (input : List ℕ) (budget more : ℕ)
    → run_of p (depth_enough p budget + more) block (start input budget) ≡ run p input budget

-- this holds of the calls of each run, which are told from how many are below each
abbrev pub OfEachRun : (List ℕ → Type 0) → Type 0
OfEachRun P = (p : ProgramRows) (input : List ℕ) (budget : ℕ) (r : Result State Call) → run p input budget ≡ Some r
    → P (belows r.events)

-- every run has a first call
abbrev pub EveryRunHasACall : Type 0
EveryRunHasACall = OfEachRun (λ bs. 0 < length bs)

-- the subtree of a call is the interval from it to its last call
abbrev pub SubtreeIsInterval : Type 0
SubtreeIsInterval = OfEachRun (λ bs. (k j : ℕ) → k < length bs → (InSubtree bs k j ↔ (k ≤ j) × (j ≤ last_below bs k)))

-- the last call of a call is a call
abbrev pub LastIsACall : Type 0
LastIsACall = OfEachRun (λ bs. (k : ℕ) → k < length bs → last_below bs k < length bs)

-- call 0 has no parent and the depth 0
abbrev pub FirstHasNoParent : Type 0
FirstHasNoParent = OfEachRun (λ bs. (parent_of bs 0 ≡ None) × (depth_of bs 0 ≡ 0))

-- each other call has a parent, which was entered before it and is one less deep
abbrev pub OthersHaveAParent : Type 0
OthersHaveAParent = OfEachRun (λ bs. (k : ℕ) → 0 < k → k < length bs
    → (j : ℕ) × ((parent_of bs k ≡ Some j) × (j < k) × (depth_of bs k ≡ depth_of bs j + 1)))

-- from its mark on the log of the run has the entries of each call
abbrev pub MarksTellTheLog : Type 0
MarksTellTheLog = (p : ProgramRows) (input : List ℕ) (budget : ℕ) (r : Result State Call) → run p input budget ≡ Some r
    → All (λ c. StandsAt r.log c.mark c.event.log) r.events
