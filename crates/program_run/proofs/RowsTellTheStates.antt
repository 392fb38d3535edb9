-- What the rows of the calls of a run tell of the states before the calls.
use Rattle.std.proofs.Common.{◌++◌, ◌+◌, ◌-◌, ◌∙◌, ◌∷◌, ◌≡◌, ◌≤◌, [], ℕ, List, Some, ap, append-nil, append_assoc, arith, length, refl, subst, suc, sym, zero}
use Rattle.std.{proofs.lemmas.Bool.Decides.nat_tests, proofs.lemmas.List.length-map, proofs.lemmas.List.map-append, specs.List.slice_get}
use Rattle.cell_value.specs.{Effects.given_of, declared.entries.Touch.Touch, declared.values.Value.Value}
use Rattle.core_program.proofs.{CallsOfRunsNest.belows_later, NestedCallsAreIntervals.within_append, NestedCallsAreIntervals.within_call}
use Rattle.core_program.proofs.{OutcomesCompose.none_some, OutcomesCompose.some_same, Ways.Ran, Ways.RanCall, Ways.RanFrame, Ways.of_call}
use Rattle.core_program.proofs.ActsLeave.{Leaves, MayEnter, leaves_same, limits_hold}
use Rattle.core_program.proofs.RunsLeave.{act_left, call_leaves, ran_leaves, sound_framed, sound_opened}
use Rattle.core_program.proofs.Ways as ways
use Rattle.core_program.specs.{Acts.Spend, Passed.args_at, Passed.cells_entered, ProgramRows.ProgramRows, State.IsSound, State.State, Tree.ActTree}
use Rattle.core_program.specs.Numbering.{Inside, belows, each_from}
use Rattle.core_program.specs.Run.{Call, Marked, Result, frame_size, later_by, record_of}
use Rattle.call_tree.specs.declared.records.Call as table
use Rattle.program_run.proofs.RowsInParts.{further, later, rows_append, rows_call, rows_moved}
use Rattle.program_run.specs.Tower.{RowSpot, rows_at}

-- A row tells the depth at which its call was entered; and the call was entered with at most this many steps left, after
-- a beginning of this output.
pub record Tells (most : ℕ) (output : List ℕ) (row : table.Call) (c : Call) : Type 0 where
  pub depth : row.depth ≡ c.entry.depth
  pub steps : c.entry.steps ≤ most
  pub rest : List ℕ
  pub given : output ≡ c.entry.output ++ rest

abbrev pub AllTell : (most : ℕ) → (output : List ℕ) → List table.Call → List (Marked Call) → Type 0
AllTell most output [] [] = Unit {0}
AllTell most output (row ∷ rows) (m ∷ ms) = Tells most output row m.event × AllTell most output rows ms
AllTell most output rows ms = ⊥

all_append : (most : ℕ) (output : List ℕ) (rows rs : List table.Call) (ms ns : List (Marked Call)) → AllTell most output rows ms
    → AllTell most output rs ns → AllTell most output (rows ++ rs) (ms ++ ns)
all_append most output [] rs [] ns h k = k
all_append most output [] rs (m ∷ ms) ns h k = absurd h
all_append most output (row ∷ rows) rs [] ns h k = absurd h
all_append most output (row ∷ rows) rs (m ∷ ms) ns h k = (h.0, all_append most output rows rs ms ns h.1 k)

all_marked : (most : ℕ) (output : List ℕ) (n : ℕ) (rows : List table.Call) (ms : List (Marked Call)) → AllTell most output rows ms
    → AllTell most output rows (later_by n ms)
all_marked most output n [] [] h = tt
all_marked most output n [] (m ∷ ms) h = absurd h
all_marked most output n (row ∷ rows) [] h = absurd h
all_marked most output n (row ∷ rows) (m ∷ ms) h = (h.0, all_marked most output n rows ms h.1)

-- the same with what was given out later, and with more steps at most
all_on : {most k : ℕ} (output more : List ℕ) (rows : List table.Call) (ms : List (Marked Call)) → k ≤ most → AllTell k output rows ms
    → AllTell most (output ++ more) rows ms
all_on output more [] [] l h = tt
all_on output more [] (m ∷ ms) l h = absurd h
all_on output more (row ∷ rows) [] l h = absurd h
all_on output more (row ∷ rows) (m ∷ ms) l h = (
  record {
    depth = h.0.depth;
    steps = let a = h.0.steps in omega (arith, a, l);
    rest = h.0.rest ++ more;
    given = ap (λ l. l ++ more) h.0.given ∙ append_assoc m.event.entry.output h.0.rest more;
  },
  all_on output more rows ms l h.1,
)

all_more : {most k : ℕ} (output : List ℕ) (rows : List table.Call) (ms : List (Marked Call)) → k ≤ most → AllTell k output rows ms
    → AllTell most output rows ms
all_more {most = most} output rows ms l h = subst (λ o. AllTell most o rows ms) (append-nil output) (all_on output [] rows ms l h)

-- from a state to another the calls of a part are told by their rows, wherever these stand
pub record Told (σ τ : State) (es : List (Marked Call)) : Type 0 where
  pub depth : τ.depth ≡ σ.depth
  pub steps : τ.steps ≤ σ.steps
  pub inside : Inside (belows es)
  pub tell : (s : RowSpot) → s.depth ≡ σ.depth → AllTell σ.steps τ.output (rows_at s es) es

told_none : {σ τ : State} → τ.depth ≡ σ.depth → τ.steps ≤ σ.steps → Told σ τ []
told_none e l = record { depth = e; steps = l; inside = record { inside = λ k h. absurd (omega arith) }; tell = λ s d. tt }

-- what was before, and what followed
told_front : {σ τ υ : State} {w : List Touch} {n : ℕ} (k : ℕ) (es fs : List (Marked Call)) → Told σ τ es → Leaves τ w n υ → Told τ υ fs
    → Told σ υ (es ++ later_by k fs)
told_front {σ = σ} {τ = τ} {υ = υ} {w = w} k es fs f l g =
    let few = f.steps in
    let fewer = g.steps in
    record {
      depth = g.depth ∙ f.depth;
      steps = omega (arith, few, fewer);
      inside = subst (λ bs. Inside bs) (sym (map-append (λ c. c.event.below) es (later_by k fs) ∙ ap (λ bs. belows es ++ bs) (belows_later k fs)))
          (within_append (belows es) (belows fs) f.inside g.inside);
      tell = λ s e.
          let a : AllTell σ.steps υ.output (rows_at s es) es =
          subst (λ o. AllTell σ.steps o (rows_at s es) es) (sym l.output)
          (all_on τ.output (given_of w) (rows_at s es) es (let z : σ.steps ≤ σ.steps = omega arith in z) (f.tell s e)) in
          let b = all_more υ.output _ (later_by k fs) few
          (all_marked τ.steps υ.output k _ fs (g.tell (later (further s (length es)) k) (e ∙ sym f.depth))) in
          subst (λ rows. AllTell σ.steps υ.output rows (es ++ later_by k fs))
          (sym (rows_append s es (later_by k fs) f.inside ∙ ap (λ rows. rows_at s es ++ rows) (rows_moved (further s (length es)) k fs)))
          (all_append σ.steps υ.output (rows_at s es) _ es (later_by k fs) a b);
    }

-- a call, before those below it
told_call : {f : ℕ} {args : List Value} {σ : State} (y : Result State Call) {n : ℕ} → Leaves σ y.log n y.after
    → Told (record σ { depth = σ.depth + 1 }) (record y.after { depth = σ.depth + 1 }) y.events
    → Told σ y.after (of_call f args σ y).events
told_call {f = f} {args = args} {σ = σ} y l g = record {
  depth = l.depth;
  steps = l.steps;
  inside = within_call (length y.events) (belows y.events) (sym (length-map y.events (λ c. c.event.below))) g.inside;
  tell = λ s e. subst (λ rows. AllTell σ.steps y.after.output rows (of_call f args σ y).events)
      (sym (rows_call s (record_of f args σ y) y.events refl)) (
        record { depth = e; steps = (let z : σ.steps ≤ σ.steps = omega arith in z); rest = given_of y.log; given = l.output },
        g.tell _ (ap (λ d. d + 1) e),
      );
}

none_told : {σ : State} → Told σ σ []
none_told {σ = σ} = told_none refl (let z : σ.steps ≤ σ.steps = omega arith in z)

module _ (p : ProgramRows) where
  mutual
    pub ran_told : {n : ℕ} {t : ActTree} {σ : State} {r : Result State Call} → Ran p n t σ r → IsSound σ → Told σ r.after r.events
    ran_told ways.Returned s = none_told
    ran_told ways.Stopped s = none_told
    ran_told (ways.Refused {act = act} {w = w} {τ = τ} q) s =
        let l = act_left act s q in
        told_front (length w) [] [] (told_none l.depth l.steps) (leaves_same τ l.sound) none_told
    ran_told (ways.Acted {act = act} {w = w} {r = r} q h) s =
        let l = act_left act s q in
        told_front (length w) [] r.events (told_none l.depth l.steps) (ran_leaves p h l.sound).leaves (ran_told h l.sound)
    ran_told (ways.PartStopped h e) s = ran_told h s
    ran_told (ways.PartEnded {r = y} {s = z} h e g) s =
        let l = (ran_leaves p h s).leaves in
        told_front (length y.log) y.events z.events (ran_told h s) (ran_leaves p g l.sound).leaves (ran_told g l.sound)
    ran_told (ways.AtLimit q) s = none_told
    ran_told (ways.CallStopped {e = e} {σ = σ} {y = y} q h d) s =
        let m = limits_hold σ (cells_entered e) q in
        told_call y (call_leaves p h s m).leaves (call_told h s m)
    ran_told (ways.CallEnded {e = e} {σ = σ} {y = y} {s = z} q h d g) s =
        let m = limits_hold σ (cells_entered e) q in
        let l = (call_leaves p h s m).leaves in
        told_front (length y.log) (of_call e.routine (args_at e σ.top) σ y).events z.events (told_call y l (call_told h s m)) (ran_leaves p g l.sound).leaves
        (ran_told g l.sound)
    ran_told (ways.NotBegun {w = w} {τ = τ} q) s =
        let l = act_left (Spend 1) s q in
        told_front (length w) [] [] (told_none l.depth l.steps) (leaves_same τ l.sound) none_told
    ran_told (ways.Began {w = w} {τ = τ} {r = r} q h) s =
        let l = act_left (Spend 1) s q in
        let k = (ran_leaves p h l.sound).leaves in
        told_front (length w) [] (later_by 0 r.events) (told_none l.depth l.steps) k (told_front 0 [] r.events none_told k (ran_told h l.sound))

    frame_told : {n f : ℕ} {args : List Value} {σ : State} {r : Result State Call} → RanFrame p n f args σ r → IsSound σ → Told σ r.after r.events
    frame_told (ways.NoRoom e t) s = none_told
    frame_told (ways.NoSteps {σ = σ} e t u) s = told_none refl (let z : 0 ≤ σ.steps = omega arith in z)
    frame_told (ways.Worked {args = args} {σ = σ} {q = q} {y = y} e t u h) s =
        let g = ran_told h (sound_framed q args σ s (grind (arith, nat_tests))) in
        let few = g.steps in
        record {
          depth = g.depth;
          steps = omega (arith, few);
          inside = g.inside;
          tell = λ s d. all_more y.after.output _ y.events (let z : σ.steps - frame_size q args ≤ σ.steps = omega arith in z) (g.tell s d);
        }

    -- what is below a call
    call_told : {n f : ℕ} {args : List Value} {σ : State} {r : Result State Call} → RanCall p n f args σ r → IsSound σ → MayEnter σ
        → Told (record σ { depth = σ.depth + 1 }) (record r.after { depth = σ.depth + 1 }) r.events
    call_told (ways.Closed {σ = σ} c h) s m =
        let g = frame_told h (sound_opened σ s m) in
        record { depth = refl; steps = g.steps; inside = g.inside; tell = g.tell }

-- ---- one row

pub tells_at : (most : ℕ) (output : List ℕ) (rows : List table.Call) (ms : List (Marked Call)) (k : ℕ) (row : table.Call) (m : Marked Call)
    → AllTell most output rows ms → slice_get rows k ≡ Some row → slice_get ms k ≡ Some m → Tells most output row m.event
tells_at most output [] ms k row m h e f = absurd (none_some e)
tells_at most output (r ∷ rows) [] k row m h e f = absurd h
tells_at most output (r ∷ rows) (n ∷ ms) zero row m h e f =
    subst (λ (x : Marked Call). Tells most output row x.event) (some_same f)
    (subst (λ x. Tells most output x n.event) (some_same e) h.0)
tells_at most output (r ∷ rows) (n ∷ ms) (suc k) row m h e f = tells_at most output rows ms k row m h.1 e f

pub record At {A B : Type 0} (f : ℕ → A → B) (xs : List A) (j k : ℕ) (y : B) : Type 0 where
  pub element : A
  pub stands : slice_get xs k ≡ Some element
  pub is : f (j + k) element ≡ y

pub each_at : {A B : Type 0} (f : ℕ → A → B) (j k : ℕ) (xs : List A) (y : B) → slice_get (each_from f j xs) k ≡ Some y → At f xs j k y
each_at f j k [] y e = absurd (none_some e)
each_at f j zero (x ∷ xs) y e =
    record { element = x; stands = refl; is = ap (λ n. f n x) (let z : j + 0 ≡ j = omega arith in z) ∙ some_same e }
each_at f j (suc k) (x ∷ xs) y e =
    let h = each_at f (suc j) k xs y e in
    record { element = h.element; stands = h.stands; is = ap (λ n. f n h.element) (let z : j + suc k ≡ suc j + k = omega arith in z) ∙ h.is }
