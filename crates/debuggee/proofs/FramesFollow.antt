-- The frame of each call of a run begins where that of its caller ends.
use Rattle.std.proofs.Common.{◌++◌, ◌+◌, ◌<◌, ◌∙◌, ◌∷◌, ◌≡◌, ◌≤◌, [], ℕ, List, None, Option, Some, ap, arith, length, refl, subst, suc, sym, zero}
use Rattle.std.{proofs.lemmas.Bool.Decides.nat_tests, proofs.lemmas.List.length-map, proofs.lemmas.List.map-append, specs.List.slice_get}
use Rattle.cell_value.specs.declared.values.Value.{Value}
use Rattle.core_program.proofs.{ActsLeave.MayEnter, ActsLeave.limits_hold, CallsOfRunsNest.belows_later, LawsOfRuns.begins_sound}
use Rattle.core_program.proofs.NestedCallsAreIntervals.{within_append, within_call}
use Rattle.core_program.proofs.OutcomesCompose.{none_some, some_same}
use Rattle.core_program.proofs.RunsLeave.{act_left, call_leaves, ran_leaves, sound_framed, sound_opened}
use Rattle.core_program.proofs.Ways.{Ran, RanCall, RanFrame, front, of_call, run_gives}
use Rattle.core_program.proofs.Ways as ways
use Rattle.core_program.specs.{Acts.Spend, Numbering.Inside, Numbering.belows, Passed.args_at, Passed.cells_entered, ProgramRows.ProgramRows}
use Rattle.core_program.specs.{ProgramRows.routine_at, State.IsSound, State.State, Tree.ActTree, declared.program.Routine.Routine}
use Rattle.core_program.specs.Run.{Call, Marked, Outcome, Result, block, depth_enough, frame_size, later_by, record_of, run, start}
use Rattle.call_tree.specs.declared.records.Call as table
use Rattle.program_run.proofs.RowsInParts.{further, later, length_each, rows_append, rows_call, rows_moved, rows_whole}
use Rattle.program_run.specs.{History.recording_of, Table.row_with, Table.table_of, Tower.RowSpot, Tower.below, Tower.first_spot, Tower.rows_at}

-- an open call, whose frame ends here
pub record EndsAt (p : ProgramRows) (calls : List table.Call) (number place : ℕ) : Type 0 where
  pub call : table.Call
  pub is : slice_get calls number ≡ Some call
  pub routine : Routine
  pub has : routine_at p call.routine ≡ Some routine
  pub ends : place ≡ call.entry.top + frame_size routine call.args

-- The frame of a call that was entered as this one begins where the frame of the call that made it ends.
abbrev pub BeginsAt : ProgramRows → List table.Call → (number : ℕ) → (parent : Option ℕ) → (place : ℕ) → Type 0
BeginsAt p calls number None place = place ≡ 0
BeginsAt p calls number (Some parent) place = (parent < number) × EndsAt p calls parent place

-- the routine of a call is there, and its frame begins where that of the call that made it ends
pub record IsFramed (p : ProgramRows) (calls : List table.Call) (number : ℕ) (call : table.Call) : Type 0 where
  pub routine : Routine
  pub has : routine_at p call.routine ≡ Some routine
  pub begins : BeginsAt p calls number call.parent call.entry.top

-- these rows stand among all from a number on
abbrev Stand : List table.Call → (number : ℕ) → List table.Call → Type 0
Stand all number [] = Unit {0}
Stand all number (row ∷ rows) = (slice_get all number ≡ Some row) × Stand all (suc number) rows

stand_all : (all : List table.Call) (number : ℕ) (rows : List table.Call) → ((i : ℕ) → slice_get all (number + i) ≡ slice_get rows i) → Stand all number rows
stand_all all number [] h = tt
stand_all all number (row ∷ rows) h = (
  ap (slice_get all) (let x : number ≡ number + 0 = omega arith in x) ∙ h 0,
  stand_all all (suc number) rows (λ i. ap (slice_get all) (let x : suc number + i ≡ number + suc i = omega arith in x) ∙ h (suc i)),
)

stand_first : (all : List table.Call) (number : ℕ) (rows rs : List table.Call) → Stand all number (rows ++ rs) → Stand all number rows
stand_first all number [] rs h = tt
stand_first all number (row ∷ rows) rs h = (h.0, stand_first all (suc number) rows rs h.1)

stand_after : (all : List table.Call) (number : ℕ) (rows rs : List table.Call) → Stand all number (rows ++ rs) → Stand all (number + length rows) rs
stand_after all number [] rs h = subst (λ n. Stand all n rs) (let x : number ≡ number + 0 = omega arith in x) h
stand_after all number (row ∷ rows) rs h =
    subst (λ n. Stand all n rs) (let x : suc number + length rows ≡ number + suc (length rows) = omega arith in x) (stand_after all (suc number) rows rs h.1)

module _ (p : ProgramRows) where
  -- each of these rows, from a number on, is that of a call whose frame stands where it should
  abbrev AllFramed : List table.Call → (number : ℕ) → List table.Call → Type 0
  AllFramed all number [] = Unit {0}
  AllFramed all number (row ∷ rows) = IsFramed p all number row × AllFramed all (suc number) rows

  framed_append : (all : List table.Call) (number : ℕ) (rows rs : List table.Call) → AllFramed all number rows → AllFramed all (number + length rows) rs
      → AllFramed all number (rows ++ rs)
  framed_append all number [] rs h g = subst (λ n. AllFramed all n rs) (let x : number + 0 ≡ number = omega arith in x) g
  framed_append all number (row ∷ rows) rs h g = (
    h.0,
    framed_append all (suc number) rows rs h.1
        (subst (λ n. AllFramed all n rs) (let x : number + suc (length rows) ≡ suc number + length rows = omega arith in x) g),
  )

  begins_later : (all : List table.Call) (n m : ℕ) (parent : Option ℕ) (base : ℕ) → n ≤ m → BeginsAt p all n parent base → BeginsAt p all m parent base
  begins_later all n m None base l h = h
  begins_later all n m (Some j) base l h = (let a = h.0 in omega (arith, a, l), h.1)

  -- calls of a body whose frame ends at a base stand in their frames, wherever their rows are
  record Fits (base : ℕ) (es : List (Marked Call)) : Type 0 where
    inside : Inside (belows es)
    framed : (all : List table.Call) (s : RowSpot) → BeginsAt p all s.number s.parent base → Stand all s.number (rows_at s es)
        → AllFramed all s.number (rows_at s es)

  fits_none : {base : ℕ} → Fits base []
  fits_none = record { inside = record { inside = λ k h. absurd (omega arith) }; framed = λ all s b h. tt }

  fits_append : {base : ℕ} (k : ℕ) (es fs : List (Marked Call)) → Fits base es → Fits base fs → Fits base (es ++ later_by k fs)
  fits_append {base = base} k es fs f g = record {
    inside = subst (λ bs. Inside bs) (sym (map-append (λ c. c.event.below) es (later_by k fs) ∙ ap (λ bs. belows es ++ bs) (belows_later k fs)))
        (within_append (belows es) (belows fs) f.inside g.inside);
    framed = λ all s b h.
        let far = later (further s (length es)) k in
        let rows = rows_append s es (later_by k fs) f.inside ∙ ap (λ rows. rows_at s es ++ rows) (rows_moved (further s (length es)) k fs) in
        let h' : Stand all s.number (rows_at s es ++ rows_at far fs) = subst (Stand all s.number) rows h in
        let n : length (rows_at s es) ≡ length es = length_each _ 0 es in
        let first = f.framed all s b (stand_first all s.number (rows_at s es) (rows_at far fs) h') in
        let there : Stand all (s.number + length es) (rows_at far fs) =
        subst (λ n. Stand all (s.number + n) (rows_at far fs)) n (stand_after all s.number (rows_at s es) (rows_at far fs) h') in
        let second = g.framed all far (begins_later all s.number (s.number + length es) s.parent base (omega arith) b) there in
        subst (AllFramed all s.number) (sym rows) (framed_append all s.number (rows_at s es) (rows_at far fs) first
        (subst (λ n. AllFramed all (s.number + n) (rows_at far fs)) (sym n) second));
  }

  fits_later : {base : ℕ} (k : ℕ) (es : List (Marked Call)) → Fits base es → Fits base (later_by k es)
  fits_later k es f = fits_append k [] es fits_none f

  fits_call : {base : ℕ} (c : Call) (q : Routine) (es : List (Marked Call)) → c.below ≡ length es → c.entry.top ≡ base → routine_at p c.routine ≡ Some q
      → Fits (base + frame_size q c.args) es
      → Fits base ((record { mark = 0; event = c }) ∷ es)
  fits_call {base = base} c q es e top has f = record {
    inside = within_call c.below (belows es) (e ∙ sym (length-map es (λ c. c.event.below))) f.inside;
    framed = λ all s b h.
        let rows = rows_call s c es e in
        let row = row_with c s.parent s.depth (s.number + length es) s.mark in
        let h' : (slice_get all s.number ≡ Some row) × Stand all (suc s.number) (rows_at (below s) es) = subst (Stand all s.number) rows h in
        let under : EndsAt p all s.number (base + frame_size q c.args) =
        record { call = row; is = h'.0; routine = q; has = has; ends = ap (λ t. t + frame_size q c.args) (sym top) } in
        subst (AllFramed all s.number) (sym rows) (
          record { routine = q; has = has; begins = subst (BeginsAt p all s.number s.parent) (sym top) b },
          f.framed all (below s) (omega arith, under) h'.1,
        );
  }

  -- what is inside of a call
  record Within (f : ℕ) (args : List Value) (σ : State) (es : List (Marked Call)) : Type 0 where
    routine : Routine
    has : routine_at p f ≡ Some routine
    fits : Fits (σ.top + frame_size routine args) es

  within_fits : {f : ℕ} {args : List Value} {σ : State} (y : Result State Call) → Within f args σ y.events → Fits σ.top (of_call f args σ y).events
  within_fits {f = f} {args = args} {σ = σ} y w = fits_call (record_of f args σ y) w.routine y.events refl refl w.has w.fits

  mutual
    ran_fits : {n : ℕ} {t : ActTree} {σ : State} {r : Result State Call} → Ran p n t σ r → IsSound σ → Fits σ.top r.events
    ran_fits ways.Returned s = fits_none
    ran_fits ways.Stopped s = fits_none
    ran_fits (ways.Refused {w = w} q) s = fits_later (length w) [] fits_none
    ran_fits (ways.Acted {act = act} {w = w} {r = r} q h) s =
        let l = act_left act s q in
        fits_later (length w) r.events (subst (λ b. Fits b r.events) l.top (ran_fits h l.sound))
    ran_fits (ways.PartStopped h e) s = ran_fits h s
    ran_fits (ways.PartEnded {r = y} {s = z} h e g) s =
        let l = (ran_leaves p h s).leaves in
        fits_append (length y.log) y.events z.events (ran_fits h s) (subst (λ b. Fits b z.events) l.top (ran_fits g l.sound))
    ran_fits (ways.AtLimit q) s = fits_none
    ran_fits (ways.CallStopped {e = e} {σ = σ} {y = y} q h d) s = within_fits y (call_fits h s (limits_hold σ (cells_entered e) q))
    ran_fits (ways.CallEnded {e = e} {σ = σ} {y = y} {s = z} q h d g) s =
        let m = limits_hold σ (cells_entered e) q in
        let l = (call_leaves p h s m).leaves in
        fits_append (length y.log) (of_call e.routine (args_at e σ.top) σ y).events z.events (within_fits y (call_fits h s m))
        (subst (λ b. Fits b z.events) l.top (ran_fits g l.sound))
    ran_fits (ways.NotBegun {w = w} q) s = fits_later (length w) [] fits_none
    ran_fits (ways.Began {w = w} {r = r} q h) s =
        let l = act_left (Spend 1) s q in
        fits_later (length w) (later_by 0 r.events) (fits_later 0 r.events (subst (λ b. Fits b r.events) l.top (ran_fits h l.sound)))

    frame_fits : {n f : ℕ} {args : List Value} {σ : State} {r : Result State Call} → RanFrame p n f args σ r → IsSound σ → Within f args σ r.events
    frame_fits (ways.NoRoom {q = q} e t) s = record { routine = q; has = e; fits = fits_none }
    frame_fits (ways.NoSteps {q = q} e t u) s = record { routine = q; has = e; fits = fits_none }
    frame_fits (ways.Worked {args = args} {σ = σ} {q = q} e t u h) s =
        record { routine = q; has = e; fits = ran_fits h (sound_framed q args σ s (grind (arith, nat_tests))) }

    call_fits : {n f : ℕ} {args : List Value} {σ : State} {r : Result State Call} → RanCall p n f args σ r → IsSound σ → MayEnter σ → Within f args σ r.events
    call_fits (ways.Closed {σ = σ} c h) s m =
        let g = frame_fits h (sound_opened σ s m) in
        record { routine = g.routine; has = g.has; fits = g.fits }

  framed_at : (all : List table.Call) (number : ℕ) (rows : List table.Call) (k : ℕ) (row : table.Call) → AllFramed all number rows
      → slice_get rows k ≡ Some row → IsFramed p all (number + k) row
  framed_at all number [] k row h e = absurd (none_some e)
  framed_at all number (r ∷ rows) zero row h e =
      subst (λ n. IsFramed p all n row) (let x : number ≡ number + 0 = omega arith in x) (subst (IsFramed p all number) (some_same e) h.0)
  framed_at all number (r ∷ rows) (suc k) row h e =
      subst (λ n. IsFramed p all n row) (let x : suc number + k ≡ number + suc k = omega arith in x) (framed_at all (suc number) rows k row h.1 e)

  of_outcome : (input : List ℕ) (budget : ℕ) (x : Outcome) → run p input budget ≡ x → (number : ℕ) (call : table.Call)
      → slice_get (recording_of p x).calls number ≡ Some call → IsFramed p (recording_of p x).calls number call
  of_outcome input budget None e number call h = absurd (none_some h)
  of_outcome input budget (Some r) e number call h =
      let all = table_of r.events in
      let fits = ran_fits (run_gives p (depth_enough p budget) block (start input budget) r e) (begins_sound input budget) in
      let rows : rows_at first_spot r.events ≡ all = rows_whole r.events in
      let every : AllFramed all 0 (rows_at first_spot r.events) =
      fits.framed all first_spot refl (subst (Stand all 0) (sym rows) (stand_all all 0 all (λ i. ap (slice_get all) (let x : 0 + i ≡ i = omega arith in x)))) in
      subst (λ n. IsFramed p all n call) (let x : 0 + number ≡ number = omega arith in x)
      (framed_at all 0 all number call (subst (AllFramed all 0) rows every) h)

pub frames_of_run : (p : ProgramRows) (input : List ℕ) (budget number : ℕ) (call : table.Call)
    → slice_get (recording_of p (run p input budget)).calls number ≡ Some call
    → IsFramed p (recording_of p (run p input budget)).calls number call
frames_of_run p input budget number call h = of_outcome p input budget (run p input budget) refl number call h
