-- What is done again from a stop of a body on, where it is known from before the stop.
use Rattle.std.proofs.Common.{if◌then◌else◌, ◌&&◌, ◌++◌, ◌==◌, ◌∙◌, ◌∷◌, ◌≡◌, [], ℕ, Bool, List, None, Option, Some, ap, append-nil, append_assoc, arith, false}
use Rattle.std.proofs.Common.{length, refl, subst, suc, sym, true, zero}
use Rattle.std.specs.List.{All}
use Rattle.cell_value.specs.declared.{entries.Touch.Touch, values.Value.Value, ways_out.WayOut.WayOut, ways_out.Which.Which}
use Rattle.core_program.proofs.{Events.events_append, Events.unmarked, OutcomesCompose.none_some, OutcomesCompose.some_same, OutcomesCompose.walk_bind}
use Rattle.core_program.proofs.MoreDepthSameResult.{Grows, joined_less, less_same, run_less}
use Rattle.core_program.specs.{Layer.layer, Passed.Entering, Passed.args_at, Passed.cells_entered, ProgramRows.ProgramRows, RunLaws.IsMet, State.State}
use Rattle.core_program.specs.Acts.{ActResult, Answer, Spend, Stops, Went, limit_passed, perform}
use Rattle.core_program.specs.Replay.{ChildOf, Event, Replayed, Replaying, end_of, next_call, replay_of, replaying, same_args}
use Rattle.core_program.specs.Run.{Call, End, Ended, Halted, Marked, Result, ends, if_allowed, in_front, joined, on_done, on_end}
use Rattle.core_program.specs.Tree.{ActTree, Do, Enter, Halt, Line, Meaningless, Out, Ret, Sub, bind, way_of}
use Rattle.eval_ops.specs.Machines.{Moment}
use Rattle.evaluator.specs.Stops.{AtCall, AtEnd, AtLine, Stop, at_call, next_stop, on_act}
use Rattle.program_run.specs.Tower.{stage_after}
use Rattle.body_replay.specs.Again.{LeadsTo, Meeting, Met, Over, Past, Resumed, Stands, after_child, with_state}

pub past_then : {told more : List Event} {r s t : Result Replaying Event} → Past told r s → Past more s t → Past (told ++ more) r t
past_then {told = told} {more = more} {t = t} f g = record {
  end = f.end ∙ g.end;
  after = f.after ∙ g.after;
  events = f.events ∙ ap (λ l. told ++ l) g.events ∙ sym (append_assoc told more (unmarked t.events));
}

past_more : {told : List Event} {r s t : Result Replaying Event} → Past told r s → Past [] s t → Past told r t
past_more {told = told} f g = record { end = f.end ∙ g.end; after = f.after ∙ g.after; events = f.events ∙ ap (λ l. told ++ l) g.events }

-- ---- results with something in front

record Fronted (es : List (Marked Event)) (x : Replayed) (r : Result Replaying Event) : Type 0 where
  rest : Result Replaying Event
  is : x ≡ Some rest
  past : Past (unmarked es) r rest

fronted : (w : List Touch) (es : List (Marked Event)) (x : Replayed) (r : Result Replaying Event) → in_front w es x ≡ Some r → Fronted es x r
fronted w es None r e = absurd (none_some e)
fronted w es (Some y) r e = record {
  rest = y;
  is = refl;
  past = record {
    end = ap (λ z. z.end) (sym (some_same e));
    after = ap (λ z. z.after) (sym (some_same e));
    events = ap (λ z. unmarked z.events) (sym (some_same e)) ∙ events_append (length w) es y.events;
  };
}

over_is : (told : List Event) (end : End) (s : Replaying) (r rest : Result Replaying Event) → ends end s ≡ Some rest → Past told r rest → Over told end s r
over_is told end s r rest e h = record {
  ends = h.end ∙ ap (λ z. z.end) (sym (some_same e));
  after = h.after ∙ ap (λ z. z.after) (sym (some_same e));
  events = h.events ∙ ap (λ z. told ++ unmarked z.events) (sym (some_same e)) ∙ append-nil told;
}

-- ---- the next stop

grows : Grows replaying
grows = record { call = λ run run' h f args s. less_same _ }

module _ (p : ProgramRows) (told : List Event) (r : Result Replaying Event) (stop : Stop) (m' : Moment) where
  abbrev Found : Type 0
  Found = Option (Stop × Moment)

  at_once : (first : Stop) (m : Moment) (s : Replaying) → ◌≡◌ {A = Found} (Some (first, m)) (Some (stop, m')) → Stands p told first (with_state s m.state) r
      → Stands p told stop (with_state s m'.state) r
  at_once first m s e h = subst (λ (x : Stop × Moment). Stands p told x.0 (with_state s x.1.state) r) (some_same e) h

  on_stop : (line : ℕ) (s : Replaying) (l : List Touch) (rest : Result Replaying Event) (A : Type 0) (d : ActResult A) (go : A → Moment → Found)
      (next : A → Replaying → Replayed)
      → ((x : A) (w : List Touch) (τ : State) (rest' : Result Replaying Event) → go x (record { state = τ; log = l ++ w }) ≡ Some (stop, m')
      → next x (with_state s τ) ≡ Some rest' → Past [] rest rest' → Stands p told stop (with_state s m'.state) r)
      → on_act line l d go ≡ Some (stop, m') → on_done replaying line s d next ≡ Some rest → Past told r rest
      → Stands p told stop (with_state s m'.state) r
  on_stop line s l rest A (Went x w τ) go next k h e g =
      let f = fronted w [] (next x (with_state s τ)) rest e in
      k x w τ f.rest h f.is f.past
  on_stop line s l rest A (Stops why w τ) go next k h e g =
      let f = fronted w [] (ends (Halted (way_of line why)) (with_state s τ)) rest e in
      at_once (AtEnd (Halted (way_of line why))) (record { state = τ; log = l ++ w }) s h
      (over_is told (Halted (way_of line why)) (with_state s τ) r f.rest f.is (past_more g f.past))

  at_a_call : (n : ℕ) (c : Entering) (next : Out → ActTree) (s : Replaying) (l : List Touch) (rest : Result Replaying Event) (o : Option Which)
      → ◌≡◌ {A = Found} (Some (at_call o c s.state.top next, record { state = s.state; log = l })) (Some (stop, m'))
      → if_allowed o s (joined (next_call c.routine (args_at c s.state.top) s.state s.number s.calls) (λ out τ. replay_of p (suc n) (next out) τ)) ≡ Some rest
      → Past told r rest → Stands p told stop (with_state s m'.state) r
  at_a_call n c next s l rest None h e g =
      at_once (AtCall c.routine (args_at c s.state.top) next) _ s h (record { depth = n; rest = rest; is = e; past = g })
  at_a_call n c next s l rest (Some which) h e g =
      at_once (AtEnd (Halted (WayOut.Limited which))) _ s h (over_is told (Halted (WayOut.Limited which)) s r rest e g)

  onward : (k n : ℕ) (t : ActTree) (s : Replaying) (l : List Touch) (rest : Result Replaying Event)
      → next_stop p k t (record { state = s.state; log = l }) ≡ Some (stop, m') → replay_of p n t s ≡ Some rest → Past told r rest
      → Stands p told stop (with_state s m'.state) r
  onward zero n t s l rest h e g = absurd (none_some h)
  onward (suc k) zero t s l rest h e g = absurd (none_some e)
  onward (suc k) (suc n) (Ret out) s l rest h e g = at_once (AtEnd (Ended out)) _ s h (over_is told (Ended out) s r rest e g)
  onward (suc k) (suc n) (Halt line why) s l rest h e g =
      at_once (AtEnd (Halted (way_of line why))) _ s h (over_is told (Halted (way_of line why)) s r rest e g)
  onward (suc k) (suc n) Meaningless s l rest h e g = absurd (none_some h)
  onward (suc k) (suc n) (Do line act next) s l rest h e g =
      on_stop line s l rest (Answer act) (perform act s.state) _ (λ x τ. replay_of p (suc n) (next x) τ)
      (λ x w τ rest' h e f. onward k (suc n) (next x) (with_state s τ) (l ++ w) rest' h e (past_more g f)) h e g
  onward (suc k) (suc n) (Sub part next) s l rest h e g =
      onward k (suc n) (bind (layer p part) next) s l rest h
      (walk_bind replaying (λ part τ. replay_of p n (layer p part) τ) (replaying.call (λ u τ. replay_of p n u τ)) (layer p part) next s
      ∙ (joined_less (replay_of p n (layer p part) s) (replay_of p (suc n) (layer p part) s) (λ out τ. replay_of p (suc n) (next out) τ)
      (λ out τ. replay_of p (suc n) (next out) τ) (run_less replaying grows p n (layer p part) s) (λ out τ. less_same _)).gives rest e) g
  onward (suc k) (suc n) (Enter c next) s l rest h e g = at_a_call n c next s l rest (limit_passed s.state (cells_entered c)) h e g
  onward (suc k) (suc n) (Line line next) s l rest h e g =
      on_stop line s l rest (Unit {0}) (perform (Spend 1) s.state) _ (λ _ τ. in_front [] (replaying.line line) (replay_of p (suc n) next τ))
      (λ x w τ rest' h e f. begun τ rest' w h e f) h e g
    where
      begun : (τ : State) (rest' : Result Replaying Event) (w : List Touch)
          → ◌≡◌ {A = Found} (Some (AtLine line next, record { state = τ; log = l ++ w })) (Some (stop, m'))
          → in_front [] (replaying.line line) (replay_of p (suc n) next (with_state s τ)) ≡ Some rest' → Past [] rest rest'
          → Stands p told stop (with_state s m'.state) r
      begun τ rest' w h e f =
          let y = fronted [] (replaying.line line) (replay_of p (suc n) next (with_state s τ)) rest' e in
          at_once (AtLine line next) (record { state = τ; log = l ++ w }) s h
          (record { depth = suc n; rest = y.rest; is = y.is; past = past_then (past_more g f) y.past })

-- from a stop of what has still to be done
pub stops_again : {p : ProgramRows} {told : List Event} {t : ActTree} {s : Replaying} {r : Result Replaying Event} (l : List Touch) (k : ℕ)
    (stop : Stop) (m' : Moment) → LeadsTo p told t s r
    → next_stop p k t (record { state = s.state; log = l }) ≡ Some (stop, m') → Stands p told stop (with_state s m'.state) r
stops_again {p = p} {told = told} {t = t} {s = s} {r = r} l k stop m' g h = onward p told r stop m' k g.depth t s l g.rest h g.is g.past

-- ---- a call that is met

module _ (p : ProgramRows) (told : List Event) (next : Out → ActTree) (n : ℕ) (s : Replaying) (r rest : Result Replaying Event) (g : Past told r rest) where
  abbrev met_now : Event
  met_now = ChildOf s.number s.state

  abbrev kept : Call → List Call → Result Replaying Event
  kept c cs = record {
    end = end_of c.way c.result;
    after = after_child c cs s;
    log = [];
    events = (record { mark = 0; event = met_now }) ∷ [];
  }

  abbrev following : Out → Replaying → Replayed
  following out τ = replay_of p n (next out) τ

  met_end : (c : Call) (cs : List Call) → s.calls ≡ c ∷ cs → (d : End) → end_of c.way c.result ≡ d → on_end d (kept c cs) following ≡ Some rest
      → Met p told next s r
  met_end c cs q (Ended out) d e =
      let y = fronted [] ((record { mark = 0; event = met_now }) ∷ []) (following out (after_child c cs s)) rest e in
      let k = past_then g y.past in
      record {
        call = c;
        others = cs;
        calls = q;
        goes = subst (λ d. Resumed p (told ++ met_now ∷ []) (stage_after next d) (after_child c cs s) r) (sym d)
            (record { depth = n; rest = y.rest; is = y.is; past = k });
        later = unmarked y.rest.events;
        among = k.events ∙ append_assoc told (met_now ∷ []) (unmarked y.rest.events);
      }
  met_end c cs q (Halted way) d e = record {
    call = c;
    others = cs;
    calls = q;
    goes = subst (λ d. Resumed p (told ++ met_now ∷ []) (stage_after next d) (after_child c cs s) r) (sym d) (record {
      ends = g.end ∙ ap (λ z. z.end) (sym (some_same e)) ∙ d;
      after = g.after ∙ ap (λ z. z.after) (sym (some_same e));
      events = g.events ∙ ap (λ z. told ++ unmarked z.events) (sym (some_same e));
    });
    later = [];
    among = g.events ∙ ap (λ z. told ++ unmarked z.events) (sym (some_same e));
  }

  met_if : (c : Call) (cs : List Call) → s.calls ≡ c ∷ cs → (b : Bool) → joined (if b then Some (kept c cs) else None) following ≡ Some rest
      → Met p told next s r
  met_if c cs q false e = absurd (none_some e)
  met_if c cs q true e = met_end c cs q (end_of c.way c.result) refl e

  met_first : (f : ℕ) (args : List Value) (cs : List Call) → s.calls ≡ cs → joined (next_call f args s.state s.number cs) following ≡ Some rest
      → Met p told next s r
  met_first f args [] q e = absurd (none_some e)
  met_first f args (c ∷ cs) q e = met_if c cs q ((c.routine == f) && same_args c.args args) e

-- the call is the next one of the run
pub meets_next : {p : ProgramRows} {told : List Event} {f : ℕ} {args : List Value} {next : Out → ActTree} {s : Replaying} {r : Result Replaying Event}
    → Meeting p told (record { routine = f; args = args; next = next }) s r → Met p told next s r
meets_next {p = p} {told = told} {f = f} {args = args} {next = next} {s = s} {r = r} h =
    met_first p told next (suc h.depth) s r h.rest h.past f args s.calls refl h.is

-- ---- what is met

abbrev pub AllMet : ℕ → List Call → List Event → Type 0
AllMet n cs [] = Unit {0}
AllMet n cs (e ∷ es) = IsMet n cs e × AllMet n cs es

pub all_met : (n : ℕ) (cs : List Call) (es : List (Marked Event)) → All (λ e. IsMet n cs e.event) es → AllMet n cs (unmarked es)
all_met n cs [] h = tt
all_met n cs (e ∷ es) h = (h 0 e (omega arith), all_met n cs es (λ k d l. h (suc k) d (omega (arith, l))))

pub met_among : (n : ℕ) (cs : List Call) (told : List Event) (e : Event) (es : List Event) → AllMet n cs (told ++ e ∷ es) → IsMet n cs e
met_among n cs [] e es h = h.0
met_among n cs (d ∷ told) e es h = met_among n cs told e es h.1
