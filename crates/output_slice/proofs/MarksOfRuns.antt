-- Each marked record of a run is that of a call from a sound state, and the marked records of the calls below it follow.
use Rattle.std.proofs.Common.{◌++◌, ◌+◌, ◌∙◌, ◌∷◌, ◌≡◌, ◌≤◌, [], ℕ, List, Some, ap, arith, drop, length, length-append, map, refl, subst, suc, sym, take, zero}
use Rattle.std.proofs.{Math.Seq.take-length, lemmas.Bool.Decides.nat_tests, lemmas.List.length-map, lemmas.List.take-append-le}
use Rattle.std.specs.List.{slice_get}
use Rattle.cell_value.specs.declared.{entries.Touch.Touch, values.Value.Value}
use Rattle.core_program.proofs.{ActsLeave.MayEnter, ActsLeave.limits_hold, LawsOfRuns.begins_sound}
use Rattle.core_program.proofs.OutcomesCompose.{later_none, later_twice, none_some, some_same}
use Rattle.core_program.proofs.RunsLeave.{act_left, call_leaves, ran_leaves, sound_framed, sound_opened}
use Rattle.core_program.proofs.Ways.{Ran, RanCall, RanFrame, front, of_call, run_gives}
use Rattle.core_program.proofs.Ways as ways
use Rattle.core_program.specs.{Acts.Spend, Passed.args_at, Passed.cells_entered, ProgramRows.ProgramRows, State.IsSound, State.State, Tree.ActTree}
use Rattle.core_program.specs.Run.{Call, Marked, Result, block, depth_enough, later_by, record_of, run, start}

pub record MadeAt (p : ProgramRows) (e : Marked Call) (es : List (Marked Call)) : Type 0 where
  pub depth : ℕ
  pub result : Result State Call
  pub sound : IsSound e.event.entry
  pub limits : MayEnter e.event.entry
  pub ran : RanCall p depth e.event.routine e.event.args e.event.entry result
  pub record' : record_of e.event.routine e.event.args e.event.entry result ≡ e.event
  pub room : e.event.below ≤ length es
  pub calls : take e.event.below es ≡ later_by e.mark result.events

abbrev pub Marks : ProgramRows → List (Marked Call) → Type 0
Marks p [] = Unit {0}
Marks p (e ∷ es) = MadeAt p e es × Marks p es

take_map : {A B : Type 0} (f : A → B) (n : ℕ) (xs : List A) → take n (map f xs) ≡ map f (take n xs)
take_map f zero xs = refl
take_map f (suc n) [] = refl
take_map f (suc n) (x ∷ xs) = ap (λ l. f x ∷ l) (take_map f n xs)

marks_append : (p : ProgramRows) (ds es : List (Marked Call)) → Marks p ds → Marks p es → Marks p (ds ++ es)
marks_append p [] es h g = g
marks_append p (d ∷ ds) es h g = (
  record {
    depth = h.0.depth;
    result = h.0.result;
    sound = h.0.sound;
    limits = h.0.limits;
    ran = h.0.ran;
    record' = h.0.record';
    room = omega (arith, h.0.room, length-append ds es);
    calls = take-append-le d.event.below ds es h.0.room ∙ h.0.calls;
  },
  marks_append p ds es h.1 g,
)

abbrev later_one : ℕ → Marked Call → Marked Call
later_one n e = record { mark = n + e.mark; event = e.event }

marks_later : (p : ProgramRows) (n : ℕ) (es : List (Marked Call)) → Marks p es → Marks p (later_by n es)
marks_later p n [] h = tt
marks_later p n (e ∷ es) h = (
  record {
    depth = h.0.depth;
    result = h.0.result;
    sound = h.0.sound;
    limits = h.0.limits;
    ran = h.0.ran;
    record' = h.0.record';
    room = omega (arith, h.0.room, length-map es (later_one n));
    calls = take_map (later_one n) e.event.below es ∙ ap (later_by n) h.0.calls
        ∙ later_twice n e.mark (n + e.mark) h.0.result.events refl;
  },
  marks_later p n es h.1,
)

module _ (p : ProgramRows) where
  marks_front : (w : List Touch) (es : List (Marked Call)) (r : Result State Call) → Marks p es → Marks p r.events → Marks p (front w es r).events
  marks_front w es r h g = marks_append p es (later_by (length w) r.events) h (marks_later p (length w) r.events g)

  marks_call : {n f : ℕ} {args : List Value} {σ : State} {y : Result State Call} → RanCall p n f args σ y → IsSound σ → MayEnter σ → Marks p y.events
      → Marks p (of_call f args σ y).events
  marks_call {n = n} {f = f} {args = args} {σ = σ} {y = y} h s m g = (
    record {
      depth = n;
      result = y;
      sound = s;
      limits = m;
      ran = h;
      record' = refl;
      room = omega arith;
      calls = take-length y.events ∙ sym (later_none y.events);
    },
    g,
  )

  mutual
    pub ran_marks : {n : ℕ} {t : ActTree} {σ : State} {r : Result State Call} → Ran p n t σ r → IsSound σ → Marks p r.events
    ran_marks ways.Returned s = tt
    ran_marks ways.Stopped s = tt
    ran_marks (ways.Refused q) s = tt
    ran_marks (ways.Acted {act = act} {w = w} {r = y} q h) s = marks_front w [] y tt (ran_marks h (act_left act s q).sound)
    ran_marks (ways.PartStopped h e) s = ran_marks h s
    ran_marks (ways.PartEnded {r = y} {s = z} h e g) s =
        marks_front y.log y.events z (ran_marks h s) (ran_marks g (ran_leaves p h s).leaves.sound)
    ran_marks (ways.AtLimit q) s = tt
    ran_marks (ways.CallStopped {e = e} {σ = σ} q h d) s =
        let m = limits_hold σ (cells_entered e) q in
        marks_call h s m (call_marks h s m)
    ran_marks (ways.CallEnded {e = e} {σ = σ} {y = y} {s = z} q h d g) s =
        let m = limits_hold σ (cells_entered e) q in
        marks_front y.log (of_call e.routine (args_at e σ.top) σ y).events z (marks_call h s m (call_marks h s m))
        (ran_marks g (call_leaves p h s m).leaves.sound)
    ran_marks (ways.NotBegun q) s = tt
    ran_marks (ways.Began {w = w} {r = y} q h) s =
        marks_front w [] (front [] [] y) tt (marks_front [] [] y tt (ran_marks h (act_left (Spend 1) s q).sound))

    frame_marks : {n f : ℕ} {args : List Value} {σ : State} {r : Result State Call} → RanFrame p n f args σ r → IsSound σ → Marks p r.events
    frame_marks (ways.NoRoom e t) s = tt
    frame_marks (ways.NoSteps e t u) s = tt
    frame_marks (ways.Worked {args = args} {σ = σ} {q = q} e t u h) s = ran_marks h (sound_framed q args σ s (grind (arith, nat_tests)))

    call_marks : {n f : ℕ} {args : List Value} {σ : State} {r : Result State Call} → RanCall p n f args σ r → IsSound σ → MayEnter σ → Marks p r.events
    call_marks (ways.Closed {σ = σ} c h) s m = frame_marks h (sound_opened σ s m)

pub one_marked : (p : ProgramRows) (es : List (Marked Call)) (k : ℕ) (e : Marked Call) → Marks p es → slice_get es k ≡ Some e → MadeAt p e (drop (k + 1) es)
one_marked p [] k e h q = absurd (none_some q)
one_marked p (d ∷ es) zero e h q = subst (λ e. MadeAt p e es) (some_same q) h.0
one_marked p (d ∷ es) (suc k) e h q =
    subst (λ n. MadeAt p e (drop n (d ∷ es))) (let q : suc (k + 1) ≡ suc k + 1 = omega arith in q) (one_marked p es k e h.1 q)

-- how a call of a run came about
pub made_at : (p : ProgramRows) (input : List ℕ) (budget : ℕ) (r : Result State Call) → run p input budget ≡ Some r → (number : ℕ) (e : Marked Call)
    → slice_get r.events number ≡ Some e → MadeAt p e (drop (number + 1) r.events)
made_at p input budget r q number e s =
    one_marked p r.events number e (ran_marks p (run_gives p (depth_enough p budget) block (start input budget) r q) (begins_sound input budget)) s
