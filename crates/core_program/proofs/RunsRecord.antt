-- Each record of a run is that of a call from a sound state, and the records of the calls below it follow it.
use Rattle.std.proofs.Common.{◌++◌, ◌∙◌, ◌∷◌, ◌≡◌, ◌≤◌, [], ℕ, List, ap, arith, length, length-append, refl, subst, sym, take}
use Rattle.std.proofs.{Math.Seq.take-length, lemmas.Bool.Decides.nat_tests, lemmas.List.length-map, lemmas.List.take-append-le}
use Rattle.cell_value.specs.declared.{entries.Touch.Touch, values.Value.Value}
use Rattle.core_program.proofs.{ActsLeave.MayEnter, ActsLeave.limits_hold, Events.events_append, Events.unmarked}
use Rattle.core_program.proofs.RunsLeave.{act_left, call_leaves, ran_leaves, sound_framed, sound_opened}
use Rattle.core_program.proofs.Ways.{Ran, RanCall, RanFrame, front, of_call}
use Rattle.core_program.proofs.Ways as ways
use Rattle.core_program.specs.{Acts.Spend, Passed.args_at, Passed.cells_entered, ProgramRows.ProgramRows, State.IsSound, State.State, Tree.ActTree}
use Rattle.core_program.specs.Run.{Call, Marked, Result, record_of}

-- the record is that of a call, and the records of the calls below it come first of these
pub record MadeBy (p : ProgramRows) (c : Call) (cs : List Call) : Type 0 where
  pub depth : ℕ
  pub result : Result State Call
  pub sound : IsSound c.entry
  pub limits : MayEnter c.entry
  pub ran : RanCall p depth c.routine c.args c.entry result
  pub record' : record_of c.routine c.args c.entry result ≡ c
  pub room : c.below ≤ length cs
  pub calls : unmarked result.events ≡ take c.below cs

-- each record is that of a call that met these items of the input
abbrev pub Recorded : ProgramRows → List ℕ → List Call → Type 0
Recorded p xs [] = Unit {0}
Recorded p xs (c ∷ cs) = MadeBy p c cs × (c.entry.items ≡ xs) × Recorded p xs cs

recorded_append : (p : ProgramRows) (xs : List ℕ) (cs ds : List Call) → Recorded p xs cs → Recorded p xs ds → Recorded p xs (cs ++ ds)
recorded_append p xs [] ds h g = g
recorded_append p xs (c ∷ cs) ds h g = (
  record {
    depth = h.0.depth;
    result = h.0.result;
    sound = h.0.sound;
    limits = h.0.limits;
    ran = h.0.ran;
    record' = h.0.record';
    room = omega (arith, h.0.room, length-append cs ds);
    calls = h.0.calls ∙ sym (take-append-le c.below cs ds h.0.room);
  },
  h.1,
  recorded_append p xs cs ds h.2 g,
)

module _ (p : ProgramRows) (xs : List ℕ) where
  abbrev Records : Result State Call → Type 0
  Records r = Recorded p xs (unmarked r.events)

  records_front : (w : List Touch) (es : List (Marked Call)) (r : Result State Call) → Recorded p xs (unmarked es) → Records r → Records (front w es r)
  records_front w es r h g = subst (Recorded p xs) (sym (events_append (length w) es r.events)) (recorded_append p xs (unmarked es) (unmarked r.events) h g)

  -- a call's record, before those of the calls below it
  records_call : {n f : ℕ} {args : List Value} {σ : State} {y : Result State Call} → RanCall p n f args σ y → IsSound σ → MayEnter σ → σ.items ≡ xs → Records y
      → Records (of_call f args σ y)
  records_call {n = n} {f = f} {args = args} {σ = σ} {y = y} h s m e g = (
    record {
      depth = n;
      result = y;
      sound = s;
      limits = m;
      ran = h;
      record' = refl;
      room = omega (arith, length-map y.events (λ e. e.event));
      calls = sym (take-length (unmarked y.events)) ∙ ap (λ k. take k (unmarked y.events)) (length-map y.events (λ e. e.event));
    },
    e,
    g,
  )

  mutual
    -- each record of each run is that of a call
    pub ran_records : {n : ℕ} {t : ActTree} {σ : State} {r : Result State Call} → Ran p n t σ r → IsSound σ → σ.items ≡ xs → Records r
    ran_records ways.Returned s i = tt
    ran_records ways.Stopped s i = tt
    ran_records (ways.Refused q) s i = tt
    ran_records (ways.Acted {act = act} {w = w} {r = y} q h) s i =
        let l = act_left act s q in
        records_front w [] y tt (ran_records h l.sound (l.items ∙ i))
    ran_records (ways.PartStopped h e) s i = ran_records h s i
    ran_records (ways.PartEnded {r = y} {s = z} h e g) s i =
        let l = (ran_leaves p h s).leaves in
        records_front y.log y.events z (ran_records h s i) (ran_records g l.sound (l.items ∙ i))
    ran_records (ways.AtLimit q) s i = tt
    ran_records (ways.CallStopped {e = e} {σ = σ} q h d) s i =
        let m = limits_hold σ (cells_entered e) q in
        records_call h s m i (call_records h s m i)
    ran_records (ways.CallEnded {e = e} {σ = σ} {y = y} {s = z} q h d g) s i =
        let m = limits_hold σ (cells_entered e) q in
        let l = (call_leaves p h s m).leaves in
        records_front y.log (of_call e.routine (args_at e σ.top) σ y).events z (records_call h s m i (call_records h s m i))
        (ran_records g l.sound (l.items ∙ i))
    ran_records (ways.NotBegun q) s i = tt
    ran_records (ways.Began {w = w} {r = y} q h) s i =
        let l = act_left (Spend 1) s q in
        records_front w [] (front [] [] y) tt (records_front [] [] y tt (ran_records h l.sound (l.items ∙ i)))

    frame_records : {n f : ℕ} {args : List Value} {σ : State} {r : Result State Call} → RanFrame p n f args σ r → IsSound σ → σ.items ≡ xs → Records r
    frame_records (ways.NoRoom e t) s i = tt
    frame_records (ways.NoSteps e t u) s i = tt
    frame_records (ways.Worked {args = args} {σ = σ} {q = q} e t u h) s i = ran_records h (sound_framed q args σ s (grind (arith, nat_tests))) i

    call_records : {n f : ℕ} {args : List Value} {σ : State} {r : Result State Call} → RanCall p n f args σ r → IsSound σ → MayEnter σ → σ.items ≡ xs
        → Records r
    call_records (ways.Closed {σ = σ} c h) s m i = frame_records h (sound_opened σ s m) i
