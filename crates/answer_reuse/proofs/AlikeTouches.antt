-- Alike calls touched the same: both run again from one entry, and each log is that of its record but for where in the input it began.
use Rattle.std.proofs.Common.{◌+◌, ◌-◌, ◌∙◌, ◌∷◌, ◌≡◌, ◌≤◌, ◌⊎◌, [], ℕ, Bool, List, Some, ap, append-nil, arith, drop, false, inl, map, refl, subst, sym, take}
use Rattle.std.{proofs.Common.true, specs.FinMap.get}
use Rattle.cell_value.specs.{Effects.is_shared, declared.entries.Touch.Touch, declared.values.Value.Value}
use Rattle.core_program.proofs.{ActsLeave.MayEnter, ActsRepeat.Agree, Effects.SameLog, Effects.relative, Effects.unshared, Events.unmarked, LawsOfRuns.made}
use Rattle.core_program.proofs.{OutcomesCompose.some_same, RunAtAnyDepth.call_deeper, RunsLeave.Inner, RunsLeave.call_leaves, RunsRecord.MadeBy}
use Rattle.core_program.proofs.{RunsRepeat.call_again, Touches.Serves, Touches.seen_serves, Ways.RanCall, Ways.of_call}
use Rattle.core_program.proofs.RecordsStand.{by_itself, seen_in, shallow_below}
use Rattle.core_program.specs.{Agree.Agrees, Agree.deepest, ProgramRows.ProgramRows, RunLaws.calls_in, State.IsSound, State.State, WholeTables.WholeTables}
use Rattle.core_program.specs.Run.{Call, Outcome, Result, call_of, depth_enough, record_of, recorded, run_of}
use Rattle.body_replay.specs.Laws.{CallsCarryToThemselves}
use Rattle.answer_reuse.proofs.AlikeCalls.{σ, first_agrees, second_agrees, sound}
use Rattle.answer_reuse.specs.{Alike.Alike, Figures.touch_figure, Laws.AlikeTouchedTheSame, Laws.OfAlikeCalls}

-- ---- a call's touches from another state

-- a call from a state has the recorded touches, but for where in the input it begins
record TouchesAs (c : Call) (τ : State) (call : Outcome) : Type 0 where
  pub run : Result State Call
  pub is : call ≡ Some run
  pub log : SameLog c.entry.place τ.place c.log run.log

module _ (p : ProgramRows) (W : WholeTables p) {n f : ℕ} {args : List Value} {σ0 : State} {y : Result State Call} (ran : RanCall p n f args σ0 y)
    (s0 : IsSound σ0)
    (m0 : MayEnter σ0) where
  abbrev c : Call
  c = record_of f args σ0 y

  abbrev below : List Call
  below = unmarked y.events

  touch : (τ : State) → IsSound τ → Agrees c below τ → (depth : ℕ) → depth_enough p τ.steps ≤ depth → TouchesAs c τ (call_of p (run_of p depth) f args τ)
  touch τ s ag depth deep =
      let inner = call_leaves p ran s0 m0 in
      let agree : Agree σ0.place τ.place y.log σ0 τ = record {
        top = sym ag.top;
        fresh = λ h. sym (ag.fresh h);
        cells = λ a. cell inner a (is_shared σ0.top a) refl;
        place = (omega arith, omega arith);
        items = λ k h. sym (ag.items k h);
      } in
      let again = call_again p ran s0 m0 σ0.place τ.place τ []
      (subst (λ w. Agree σ0.place τ.place w σ0 τ) (sym (append-nil y.log)) agree)
      (record {
        itself = by_itself y.end ag.way;
        steps = omega (arith, ag.steps);
        calls = ag.calls;
        depth = shallow_below σ0.depth τ.depth σ0.depth (deepest c below) below (omega arith) ag.depth;
      }) in
      record {
        run = of_call f args τ again.run;
        is = (call_deeper p W n depth f args τ deep).gives (of_call f args τ again.run) (ap (recorded f args τ) again.is);
        log = again.log;
      }
    where
      cell : Inner σ0 y → (a : ℕ) (b : Bool) → is_shared σ0.top a ≡ b → (get σ0.cells a ≡ get τ.cells a) ⊎ Serves (get τ.cells a) a y.log
      cell inner a true e = seen_serves a y.log (get σ0.cells a) (get τ.cells a) (inner.leaves.shows a e) (seen_in τ σ0.top y.log ag.cells a e)
      cell inner a false e = inl (unshared σ0 a s0 e ∙ sym (unshared τ a s (ap (λ t. is_shared t a) ag.top ∙ e)))

touches : (p : ProgramRows) → WholeTables p → (c : Call) (cs : List Call) → MadeBy p c cs → (τ : State) → IsSound τ → Agrees c (take c.below cs) τ
    → (depth : ℕ) → depth_enough p τ.steps ≤ depth → TouchesAs c τ (call_of p (run_of p depth) c.routine c.args τ)
touches p W c cs h τ s = subst
    (λ (d : Call). Agrees d (take c.below cs) τ → (depth : ℕ) → depth_enough p τ.steps ≤ depth
    → TouchesAs d τ (call_of p (run_of p depth) c.routine c.args τ)) h.record'
    (λ a. touch p W h.ran h.sound h.limits τ s (subst (λ l. Agrees (record_of c.routine c.args c.entry h.result) l τ) (sym h.calls) a))

-- ---- both from one entry

pub same_touches : CallsCarryToThemselves → OfAlikeCalls (λ c d. SameLog c.entry.place d.entry.place c.log d.log)
same_touches carry p W input budget r e j k c d at to a =
    let cs = drop (j + 1) (calls_in r) in
    let ds = drop (k + 1) (calls_in r) in
    let made_c = made p input budget r e j c at in
    let made_d = made p input budget r e k d to in
    let own_c = (carry p input budget r e j c at a.way.0).0 in
    let own_d = (carry p input budget r e k d to a.way.1).0 in
    let τ = σ p c d (take c.below cs) (take d.below ds) a made_d.sound own_c own_d in
    let s = sound p c d (take c.below cs) (take d.below ds) a made_d.sound own_c own_d in
    let deep : depth_enough p τ.steps ≤ depth_enough p τ.steps = omega arith in
    let first = touches p W c cs made_c τ s (first_agrees p c d (take c.below cs) (take d.below ds) a made_d.sound own_c own_d) (depth_enough p τ.steps) deep in
    let second =
    touches p W d ds made_d τ s (second_agrees p c d (take c.below cs) (take d.below ds) a made_d.sound own_c own_d) (depth_enough p τ.steps) deep in
    let one : first.run ≡ second.run =
    some_same (sym first.is ∙ ap (λ f. call_of p (run_of p (depth_enough p τ.steps)) f c.args τ) a.routine
    ∙ ap (λ args. call_of p (run_of p (depth_enough p τ.steps)) d.routine args τ) a.args ∙ second.is) in
    first.log ∙ ap (λ (r : Result State Call). map (relative d.entry.place) r.log) one ∙ sym second.log

-- ---- the same as figures

-- the figure of a touch, of a look told from where they began already
abbrev pub shown : Touch → List ℕ
shown (Touch.Look n) = 6 ∷ n ∷ 0 ∷ 0 ∷ 0 ∷ 0 ∷ 0 ∷ []
shown t = touch_figure 0 t

pub figure_is : (place : ℕ) (t : Touch) → touch_figure place t ≡ shown (relative place t)
figure_is place (Touch.Look at) = refl
figure_is place t = refl

pub figures_are : (place : ℕ) (w : List Touch) → map (touch_figure place) w ≡ map shown (map (relative place) w)
figures_are place [] = refl
figures_are place (t ∷ w) = λ i. figure_is place t i ∷ figures_are place w i

pub touched_the_same : CallsCarryToThemselves → AlikeTouchedTheSame
touched_the_same carry p W input budget r e j k c d at to a = figures_are c.entry.place c.log
    ∙ ap (map shown) (same_touches carry p W input budget r e j k c d at to a)
    ∙ sym (figures_are d.entry.place d.log)
