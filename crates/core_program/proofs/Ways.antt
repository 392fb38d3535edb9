-- How the result of a run came about: a way for each node of a tree, with the ways of its parts and calls.
use Rattle.std.proofs.Common.{if◌then◌else◌, ◌++◌, ◌+◌, ◌∷◌, ◌≡◌, ◌≤◌, [], ℕ, Bool, List, None, Option, Some, ap, false, length, nat_lt, refl, subst, suc, true}
use Rattle.std.proofs.Common.{zero}
use Rattle.cell_value.specs.declared.{entries.Touch.Touch, values.Value.Value, ways_out.WayOut.WayOut, ways_out.Which.Which, ways_out.Which.TheVariants.Stack}
use Rattle.cell_value.specs.declared.ways_out.WayOut.TheVariants as way
use Rattle.core_program.proofs.{OutcomesCompose.none_some, OutcomesCompose.some_same, RunAtAnyDepth.call_deeper}
use Rattle.core_program.specs.{Layer.layer, Passed.Entering, Passed.args_at, Passed.cells_entered, ProgramRows.ProgramRows, ProgramRows.routine_at}
use Rattle.core_program.specs.{Run.with_frame, Run.without_frame, State.State, State.stack_end, WholeTables.WholeTables, declared.program.Routine.Routine}
use Rattle.core_program.specs.Acts.{Act, ActResult, Answer, Limited, OutOfSteps, Spend, Stops, Trouble, Went, limit_passed, perform, spent}
use Rattle.core_program.specs.Run.{Call, End, Ended, Halted, Marked, Outcome, Result, after_all, at_work, call_closed, call_of, depth_enough, ends, frame_size}
use Rattle.core_program.specs.Run.{if_allowed, in_frame, in_front, joined, later_by, on_done, on_end, opened, plain, record_of, recorded, run_of, whole}
use Rattle.core_program.specs.Tree.{ActTree, Do, Enter, Halt, Line, Meaningless, Out, Part, Ret, Sub, way_of}

-- a result with touches and events before it
abbrev pub front : {S E : Type 0} → List Touch → List (Marked E) → Result S E → Result S E
front w es r = record { end = r.end; after = r.after; log = w ++ r.log; events = es ++ later_by (length w) r.events }

-- an end with nothing before it
abbrev pub ending : End → State → Result State Call
ending e τ = record { end = e; after = τ; log = []; events = [] }

-- a result after whose run something was changed
abbrev pub changed : {S E : Type 0} → (S → S) → Result S E → Result S E
changed change r = record r { after = change r.after }

-- the result of a call, of what went on inside of it: its record stands before those of the calls below it
abbrev pub of_call : ℕ → List Value → State → Result State Call → Result State Call
of_call f args σ y = record y { events = (record { mark = 0; event = record_of f args σ y }) ∷ y.events }

-- what a call does, but for its record
abbrev pub inside : ProgramRows → (ActTree → State → Outcome) → ℕ → List Value → State → Outcome
inside p run f args σ = after_all (call_closed σ.depth) (in_frame (at_work p run f) args (opened σ) (routine_at p f))

mutual
  -- the run of a tree from a state, where parts and calls stand at most so deep in one another
  pub data Ran (p : ProgramRows) : ℕ → ActTree → State → Result State Call → Type 0 where
    Returned : {n : ℕ} {out : Out} {σ : State} → Ran p (suc n) (Ret out) σ (ending (Ended out) σ)
    Stopped : {n line : ℕ} {why : Trouble} {σ : State} → Ran p (suc n) (Halt line why) σ (ending (Halted (way_of line why)) σ)
    -- an act is not done
    Refused : {n line : ℕ} {act : Act} {next : Answer act → ActTree} {σ : State} {why : Trouble} {w : List Touch} {τ : State}
        → perform act σ ≡ Stops why w τ → Ran p (suc n) (Do line act next) σ (front w [] (ending (Halted (way_of line why)) τ))
    -- or it is, and the run goes on
    Acted : {n line : ℕ} {act : Act} {next : Answer act → ActTree} {σ : State} {x : Answer act} {w : List Touch} {τ : State} {r : Result State Call}
        → perform act σ ≡ Went x w τ → Ran p (suc n) (next x) τ r → Ran p (suc n) (Do line act next) σ (front w [] r)
    -- a part stops the run
    PartStopped : {n : ℕ} {part : Part} {next : Out → ActTree} {σ : State} {r : Result State Call} {way : WayOut} → Ran p n (layer p part) σ r
        → r.end ≡ Halted way → Ran p (suc n) (Sub part next) σ r
    -- or it ends, and the run goes on
    PartEnded : {n : ℕ} {part : Part} {next : Out → ActTree} {σ : State} {r : Result State Call} {out : Out} {s : Result State Call}
        → Ran p n (layer p part) σ r
        → r.end ≡ Ended out → Ran p (suc n) (next out) r.after s → Ran p (suc n) (Sub part next) σ (front r.log r.events s)
    -- a limit would be passed
    AtLimit : {n : ℕ} {e : Entering} {next : Out → ActTree} {σ : State} {which : Which} → limit_passed σ (cells_entered e) ≡ Some which
        → Ran p (suc n) (Enter e next) σ (ending (Halted (way.Limited which)) σ)
    -- a call stops the run
    CallStopped : {n : ℕ} {e : Entering} {next : Out → ActTree} {σ : State} {y : Result State Call} {way : WayOut} → limit_passed σ (cells_entered e) ≡ None
        → RanCall p n e.routine (args_at e σ.top) σ y → y.end ≡ Halted way → Ran p (suc n) (Enter e next) σ (of_call e.routine (args_at e σ.top) σ y)
    -- or it ends, and the run goes on
    CallEnded : {n : ℕ} {e : Entering} {next : Out → ActTree} {σ : State} {y : Result State Call} {out : Out} {s : Result State Call}
        → limit_passed σ (cells_entered e) ≡ None → RanCall p n e.routine (args_at e σ.top) σ y → y.end ≡ Ended out
        → Ran p (suc n) (next out) y.after s → Ran p (suc n) (Enter e next) σ
        (front (of_call e.routine (args_at e σ.top) σ y).log (of_call e.routine (args_at e σ.top) σ y).events s)
    -- a statement takes no step, or it takes one and its line is told
    NotBegun : {n line : ℕ} {next : ActTree} {σ : State} {why : Trouble} {w : List Touch} {τ : State} → perform (Spend 1) σ ≡ Stops why w τ
        → Ran p (suc n) (Line line next) σ (front w [] (ending (Halted (way_of line why)) τ))
    Began : {n line : ℕ} {next : ActTree} {σ : State} {w : List Touch} {τ : State} {r : Result State Call} → perform (Spend 1) σ ≡ Went tt w τ
        → Ran p (suc n) next τ r → Ran p (suc n) (Line line next) σ (front w [] (front [] [] r))

  -- the frame of a routine at a state, and the routine at work in it
  pub data RanFrame (p : ProgramRows) : ℕ → ℕ → List Value → State → Result State Call → Type 0 where
    NoRoom : {n f : ℕ} {args : List Value} {σ : State} {q : Routine} → routine_at p f ≡ Some q → nat_lt stack_end (σ.top + frame_size q args) ≡ true
        → RanFrame p n f args σ (ending (Halted (way_of 0 (Limited Stack))) σ)
    NoSteps : {n f : ℕ} {args : List Value} {σ : State} {q : Routine} → routine_at p f ≡ Some q → nat_lt stack_end (σ.top + frame_size q args) ≡ false
        → nat_lt σ.steps (frame_size q args) ≡ true → RanFrame p n f args σ (ending (Halted (way_of 0 OutOfSteps)) (spent σ))
    Worked : {n f : ℕ} {args : List Value} {σ : State} {q : Routine} {y : Result State Call} → routine_at p f ≡ Some q
        → nat_lt stack_end (σ.top + frame_size q args) ≡ false → nat_lt σ.steps (frame_size q args) ≡ false
        → Ran p n (whole p f σ.top q) (with_frame q args σ) y
        → RanFrame p n f args σ (changed (without_frame σ.top (frame_size q args)) y)

  -- a call, but for its record: `inside` gives the result, and it came about so
  pub data RanCall (p : ProgramRows) : ℕ → ℕ → List Value → State → Result State Call → Type 0 where
    Closed : {n f : ℕ} {args : List Value} {σ : State} {y : Result State Call} → in_frame (at_work p (run_of p n) f) args (opened σ) (routine_at p f) ≡ Some y
        → RanFrame p n f args (opened σ) y → RanCall p n f args σ (changed (call_closed σ.depth) y)

-- ---- each result came about so

-- this holds of the result, where there is one
abbrev pub Gives : (Result State Call → Type 0) → Outcome → Type 0
Gives P x = (r : Result State Call) → x ≡ Some r → P r

gives_this : (P : Result State Call → Type 0) (s : Result State Call) → P s → Gives P (Some s)
gives_this P s h = λ r e. subst P (some_same e) h

gives_front : (P : Result State Call → Type 0) (w : List Touch) (es : List (Marked Call)) (x : Outcome) → Gives (λ s. P (front w es s)) x
    → Gives P (in_front w es x)
gives_front P w es None h = λ r e. absurd (none_some e)
gives_front P w es (Some s) h = gives_this P (front w es s) (h s refl)

gives_changed : (P : Result State Call → Type 0) (change : State → State) (x : Outcome) → Gives (λ s. P (changed change s)) x → Gives P (after_all change x)
gives_changed P change None h = λ r e. absurd (none_some e)
gives_changed P change (Some s) h = gives_this P (changed change s) (h s refl)

gives_joined : (P : Result State Call → Type 0) (x : Outcome) (g : Out → State → Outcome)
    → ((way : WayOut) → Gives (λ s. s.end ≡ Halted way → P s) x)
    → ((out : Out) → Gives (λ s. s.end ≡ Ended out → Gives (λ t. P (front s.log s.events t)) (g out s.after)) x) → Gives P (joined x g)
gives_joined P None g h k = λ r e. absurd (none_some e)
gives_joined P (Some s) g h k = by s.end refl
  where
    by : (d : End) → s.end ≡ d → Gives P (on_end d s g)
    by (Ended out) q = gives_front P s.log s.events (g out s.after) (k out s refl q)
    by (Halted way) q = gives_this P s (h way s refl q)

module _ (p : ProgramRows) (n : ℕ) (R : (t : ActTree) (σ : State) → Gives (Ran p n t σ) (run_of p n t σ)) where
  gives_frame : (f : ℕ) (args : List Value) (σ : State) (o : Option Routine) → routine_at p f ≡ o
      → Gives (RanFrame p n f args σ) (in_frame (at_work p (run_of p n) f) args σ o)
  gives_frame f args σ None h = λ r e. absurd (none_some e)
  gives_frame f args σ (Some q) h = by (nat_lt stack_end (σ.top + frame_size q args)) (nat_lt σ.steps (frame_size q args)) refl refl
    where
      by : (a b : Bool) → nat_lt stack_end (σ.top + frame_size q args) ≡ a → nat_lt σ.steps (frame_size q args) ≡ b
          → Gives (RanFrame p n f args σ) (if a then ends (Halted (way_of 0 (Limited Stack))) σ
          else if b then ends (Halted (way_of 0 OutOfSteps)) (spent σ)
          else after_all (without_frame σ.top (frame_size q args)) (run_of p n (whole p f σ.top q) (with_frame q args σ)))
      by true b t u = gives_this (RanFrame p n f args σ) _ (NoRoom h t)
      by false true t u = gives_this (RanFrame p n f args σ) _ (NoSteps h t u)
      by false false t u = gives_changed (RanFrame p n f args σ) (without_frame σ.top (frame_size q args))
          (run_of p n (whole p f σ.top q) (with_frame q args σ))
          (λ y c. Worked h t u (R (whole p f σ.top q) (with_frame q args σ) y c))

  pub gives_inside : (f : ℕ) (args : List Value) (σ : State) → Gives (RanCall p n f args σ) (inside p (run_of p n) f args σ)
  gives_inside f args σ = gives_changed (RanCall p n f args σ) (call_closed σ.depth) (in_frame (at_work p (run_of p n) f) args (opened σ) (routine_at p f))
      (λ y c. Closed c (gives_frame f args (opened σ) (routine_at p f) refl y c))

  -- a call's result is that of what goes on inside of it
  pub gives_call : (P : Result State Call → Type 0) (f : ℕ) (args : List Value) (σ : State)
      → ((y : Result State Call) → RanCall p n f args σ y → P (of_call f args σ y)) → Gives P (call_of p (run_of p n) f args σ)
  gives_call P f args σ k = by (inside p (run_of p n) f args σ) (gives_inside f args σ)
    where
      by : (x : Outcome) → Gives (RanCall p n f args σ) x → Gives P (recorded f args σ x)
      by None h = λ r e. absurd (none_some e)
      by (Some y) h = gives_this P (of_call f args σ y) (k y (h y refl))

  deeper : (t : ActTree) (σ : State) → Gives (Ran p (suc n) t σ) (run_of p (suc n) t σ)
  deeper (Ret out) σ = gives_this (Ran p (suc n) (Ret out) σ) _ Returned
  deeper (Halt line why) σ = gives_this (Ran p (suc n) (Halt line why) σ) _ Stopped
  deeper Meaningless σ = λ r e. absurd (none_some e)
  deeper (Do line act next) σ = by (λ x τ. deeper (next x) τ) (perform act σ) refl
    where
      by : ((x : Answer act) (τ : State) → Gives (Ran p (suc n) (next x) τ) (run_of p (suc n) (next x) τ)) → (d : ActResult (Answer act)) → perform act σ ≡ d
          → Gives (Ran p (suc n) (Do line act next) σ) (on_done (plain p) line σ d (λ x τ. run_of p (suc n) (next x) τ))
      by k (Went x w τ) q = gives_front (Ran p (suc n) (Do line act next) σ) w [] (run_of p (suc n) (next x) τ) (λ s c. Acted q (k x τ s c))
      by k (Stops why w τ) q = gives_this (Ran p (suc n) (Do line act next) σ) _ (Refused q)
  deeper (Sub part next) σ = gives_joined (Ran p (suc n) (Sub part next) σ) (run_of p n (layer p part) σ) (λ out τ. run_of p (suc n) (next out) τ)
      (λ way s c q. PartStopped (R (layer p part) σ s c) q)
      (λ out s c q t g. PartEnded (R (layer p part) σ s c) q (deeper (next out) s.after t g))
  deeper (Enter e next) σ = by (λ out τ. deeper (next out) τ) (limit_passed σ (cells_entered e)) refl
    where
      args : List Value
      args = args_at e σ.top

      entered : Outcome
      entered = joined (call_of p (run_of p n) e.routine args σ) (λ out τ. run_of p (suc n) (next out) τ)

      by : ((out : Out) (τ : State) → Gives (Ran p (suc n) (next out) τ) (run_of p (suc n) (next out) τ)) → (o : Option Which)
          → limit_passed σ (cells_entered e) ≡ o
          → Gives (Ran p (suc n) (Enter e next) σ) (if_allowed o σ entered)
      by k (Some which) q = gives_this (Ran p (suc n) (Enter e next) σ) _ (AtLimit q)
      by k None q = gives_joined (Ran p (suc n) (Enter e next) σ) (call_of p (run_of p n) e.routine args σ) (λ out τ. run_of p (suc n) (next out) τ)
          (λ way. gives_call (λ s. s.end ≡ Halted way → Ran p (suc n) (Enter e next) σ s) e.routine args σ (λ y a h. CallStopped q a h))
          (λ out. gives_call (λ s. s.end ≡ Ended out → Gives (λ t. Ran p (suc n) (Enter e next) σ (front s.log s.events t))
          (run_of p (suc n) (next out) s.after)) e.routine args σ (λ y a h t g. CallEnded q a h (k out y.after t g)))
  deeper (Line line next) σ = by (λ τ. deeper next τ) (perform (Spend 1) σ) refl
    where
      by : ((τ : State) → Gives (Ran p (suc n) next τ) (run_of p (suc n) next τ)) → (d : ActResult (Unit {0})) → perform (Spend 1) σ ≡ d
          → Gives (Ran p (suc n) (Line line next) σ) (on_done (plain p) line σ d (λ x τ. in_front [] [] (run_of p (suc n) next τ)))
      by k (Went x w τ) q = gives_front (Ran p (suc n) (Line line next) σ) w [] (in_front [] [] (run_of p (suc n) next τ))
          (gives_front (λ s. Ran p (suc n) (Line line next) σ (front w [] s)) [] [] (run_of p (suc n) next τ) (λ s c. Began q (k τ s c)))
      by k (Stops why w τ) q = gives_this (Ran p (suc n) (Line line next) σ) _ (NotBegun q)

pub run_gives : (p : ProgramRows) (n : ℕ) (t : ActTree) (σ : State) → Gives (Ran p n t σ) (run_of p n t σ)
run_gives p zero t σ = λ r e. absurd (none_some e)
run_gives p (suc n) t σ = deeper p n (run_gives p n) t σ

-- the same went on at each depth that is enough
pub call_at : {p : ProgramRows} → WholeTables p → {n f : ℕ} {args : List Value} {σ : State} {y : Result State Call} → RanCall p n f args σ y → (m : ℕ)
    → depth_enough p σ.steps ≤ m → RanCall p m f args σ y
call_at {p = p} W (Closed {n = n} {f = f} {args = args} {σ = σ} {y = y} c h) m k =
    gives_call p m (run_gives p m) (λ r. r ≡ of_call f args σ (changed (call_closed σ.depth) y) → RanCall p m f args σ (changed (call_closed σ.depth) y)) f
    args σ
    (λ z a e. subst (RanCall p m f args σ) (ap uncalled e) a) (of_call f args σ (changed (call_closed σ.depth) y))
    ((call_deeper p W n m f args σ k).gives _ (ap (λ x. recorded f args σ (after_all (call_closed σ.depth) x)) c)) refl
  where
    rest : List (Marked Call) → List (Marked Call)
    rest [] = []
    rest (e ∷ es) = es

    uncalled : Result State Call → Result State Call
    uncalled r = record r { events = rest r.events }
