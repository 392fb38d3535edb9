-- How a call's own work goes on when it is done again, from stop to stop.
use Rattle.std.proofs.Common.{◌++◌, ◌+◌, ◌-◌, ◌∙◌, ◌∷◌, ◌≡◌, ◌≤◌, [], ℕ, List, Option, Some, ap, arith, drop, length, length-append, subst, suc, sym, zero}
use Rattle.std.{proofs.lemmas.List.drop-drop, proofs.lemmas.List.map-append, specs.List.slice_get}
use Rattle.cell_value.specs.declared.{entries.Touch.Touch, values.Value.Value, ways_out.WayOut.WayOut}
use Rattle.core_program.proofs.OutcomesCompose.{some_same}
use Rattle.core_program.specs.{Apply.apply, ProgramRows.ProgramRows, Run.Call, Run.End, RunLaws.IsMet, State.State, Tree.ActTree, Tree.Out}
use Rattle.core_program.specs.Replay.{ChildOf, Event, LineOf, Replaying, end_of}
use Rattle.call_tree.specs.{Told.IsTold, declared.events.Event.TheVariants.Child, declared.events.Event.TheVariants.Line}
use Rattle.call_tree.specs.declared.events.Event as kept
use Rattle.call_tree.specs.declared.records.Call as table
use Rattle.eval_ops.specs.Machines.{Moment}
use Rattle.evaluator.specs.Stops.{AtCall, AtEnd, AtLine, NextStopIs, Stop, next_stop}
use Rattle.program_run.proofs.{ActsKeepCalls.onward, LinesTakeSteps.LeftAt, LinesTakeSteps.left_at_stop}
use Rattle.program_run.specs.{Tower.stage_after, declared.history.History.History}
use Rattle.body_replay.proofs.StopsAgain.{AllMet, all_met, meets_next, met_among, stops_again}
use Rattle.body_replay.specs.{Records.HasRoomFor, Records.IsRecordOf, Replays.kept_event}
use Rattle.body_replay.specs.Again.{Job, KnownCall, LeadsTo, Met, Over, Reached, ReplayView, Resumed, after_child}

get_dropped : (xs : List Call) (i : ℕ) (x : Call) (ys : List Call) → drop i xs ≡ x ∷ ys → slice_get xs i ≡ Some x
get_dropped xs zero x ys e = ap (λ l. slice_get l 0) e
get_dropped [] (suc i) x ys e = absurd (let z : ⊥ = cc in z)
get_dropped (c ∷ xs) (suc i) x ys e = get_dropped xs i x ys e

others_dropped : (xs : List Call) (i : ℕ) (x : Call) (ys : List Call) → drop i xs ≡ x ∷ ys → drop (suc i) xs ≡ ys
others_dropped [] zero x ys e = absurd (let z : ⊥ = cc in z)
others_dropped (c ∷ xs) zero x ys e = ap (drop 1) e
others_dropped [] (suc i) x ys e = absurd (let z : ⊥ = cc in z)
others_dropped (c ∷ xs) (suc i) x ys e = others_dropped xs i x ys e

-- the effect of a call was put in place of its run
pub record Applied (c : Call) (v v' : ReplayView) (w : WayOut) (answer : Option Value) : Type 0 where
  pub state : v'.state ≡ apply c v.state
  pub events : v'.events ≡ v.events ++ Child v.next ∷ []
  pub next : v'.next ≡ v.next + c.below + 1
  pub ended : w ≡ c.way
  pub gave : answer ≡ c.result

module _ {p : ProgramRows} {h : History} {j : Job h} {next : Out → ActTree} {v : ReplayView} (a : Reached h j (λ told s. Met p told next s j.work) v) where
  abbrev so_far : ℕ
  so_far = v.next - (j.number + 1)

  abbrev pub child : Call
  child = a.stands.call

  here : slice_get j.below so_far ≡ Some child
  here = get_dropped j.below so_far child a.stands.others a.stands.calls

  pub known : KnownCall h v.next child
  known = subst (λ n. KnownCall h n child) (let n = a.next in let e : j.number + 1 + so_far ≡ v.next = omega (arith, n) in e) (j.known so_far child here)

  met : IsMet (j.number + 1) j.below (ChildOf v.next v.state)
  met = met_among (j.number + 1) j.below a.told (ChildOf v.next v.state) a.stands.later
      (subst (λ es. AllMet (j.number + 1) j.below es) a.stands.among (all_met (j.number + 1) j.below j.work.events j.met))

  pub entry : child.entry ≡ v.state
  entry =
      let m = met in
      let e : m.0 ≡ so_far = let n = m.2 in omega (arith, n) in
      let same : m.1 ≡ child = some_same (sym m.3 ∙ ap (slice_get j.below) e ∙ here) in
      ap (λ (c : Call). c.entry) (sym same) ∙ m.4

  -- a row that stands there is the call's
  pub recorded_as : {row : table.Call} → slice_get h.calls.calls v.next ≡ Some row → IsRecordOf h.log v.next row child
  recorded_as e = subst (λ row. IsRecordOf h.log v.next row child) (some_same (sym known.stands ∙ e)) known.recorded

  -- and it is told by its part of the log
  pub told_here : {row : table.Call} → slice_get h.calls.calls v.next ≡ Some row → IsTold h.log v.state.items row
  told_here {row = row} e = subst (λ items. IsTold h.log items row) (sym (ap (λ (σ : State). σ.items) (sym entry) ∙ known.items))
      (subst (λ row. IsTold h.log h.input row) (some_same (sym known.stands ∙ e)) known.told)

  -- the steps that are left before it
  pub steps_here : {row : table.Call} → IsRecordOf h.log v.next row child → v.state.steps ≡ row.entry.steps
  steps_here r = sym (ap (λ (σ : State). σ.steps) entry) ∙ ap (λ (row : table.Call). row.entry.steps) (sym r.is)

  pub room : HasRoomFor child v.state
  room = subst (HasRoomFor child) entry known.room

  pub goes_on : (v' : ReplayView) (w : WayOut) (answer : Option Value) → Applied child v v' w answer
      → Reached h j (λ told s. Resumed p told (stage_after next (end_of w answer)) s j.work) v'
  goes_on v' w answer b =
      let met_now : Event = ChildOf v.next v.state in
      let n = a.next in
      let n' = b.next in
      let ends : end_of child.way child.result ≡ end_of w answer = λ i. end_of (sym b.ended i) (sym b.gave i) in
      let rest : drop child.below a.stands.others ≡ drop (v'.next - (j.number + 1)) j.below =
      ap (drop child.below) (sym (others_dropped j.below so_far child a.stands.others a.stands.calls)) ∙ drop-drop child.below (suc so_far) j.below
      ∙ ap (λ k. drop k j.below) (omega (arith, n, n')) in
      let long = ap length b.events ∙ length-append v.events (Child v.next ∷ []) in
      let steps = ap (λ (σ : State). σ.steps) b.state in
      let calls = ap (λ (σ : State). σ.calls) b.state in
      let few = a.few in
      let most = (room).calls in
      record {
        told = a.told ++ met_now ∷ [];
        events = b.events ∙ ap (λ l. l ++ Child v.next ∷ []) a.events ∙ sym (map-append kept_event a.told (met_now ∷ []));
        next = omega (arith, n, n');
        few = omega (arith, long, steps, calls, few);
        calls = omega (arith, calls, most);
        stands = subst (λ s. Resumed p (a.told ++ met_now ∷ []) (stage_after next (end_of w answer)) s j.work)
            (λ i. record {
              state = sym b.state i;
              number = (let e : v.next + (child.below + 1) ≡ v'.next = omega (arith, n') in e) i;
              calls = rest i;
            })
            (subst (λ e. Resumed p (a.told ++ met_now ∷ []) (stage_after next e) (after_child child a.stands.others (record {
              state = v.state;
              number = v.next;
              calls = drop so_far j.below;
            })) j.work) ends a.stands.goes);
      }

fell_at : (before : ℕ) (stop : Stop) (left : ℕ) → LeftAt before stop left → left ≤ before
fell_at before (AtLine line rest) left h = omega (arith, h)
fell_at before (AtCall f args rest) left h = h
fell_at before (AtEnd end) left h = h

module _ {p : ProgramRows} {h : History} {j : Job h} {t : ActTree} {v : ReplayView} (a : Reached h j (λ told s. LeadsTo p told t s j.work) v) (l : List Touch)
    (k : ℕ)
    (m' : Moment) where
  -- where it stops
  abbrev Stopped : Stop → Type 0
  Stopped stop = next_stop p k t (record { state = v.state; log = l }) ≡ Some (stop, m')

  same_calls : (stop : Stop) → Stopped stop → m'.state.calls ≡ v.state.calls
  same_calls stop e = (onward p k t (record { state = v.state; log = l }) stop m' e).same.calls

  pub line_told : (line : ℕ) (rest : ActTree) (events : List kept.Event) → Stopped (AtLine line rest) → events ≡ v.events ++ Line line ∷ []
      → Reached h j (λ told s. LeadsTo p told rest s j.work) (record { state = m'.state; events = events; next = v.next })
  line_told line rest events e q =
      let less = left_at_stop p v.state.steps k t (record { state = v.state; log = l }) (AtLine line rest) m' (omega arith) e in
      let same = same_calls (AtLine line rest) e in
      let long = ap length q ∙ length-append v.events (Line line ∷ []) in
      let few = a.few in
      let calls = a.calls in
      record {
        told = a.told ++ LineOf line ∷ [];
        events = q ∙ ap (λ es. es ++ Line line ∷ []) a.events ∙ sym (map-append kept_event a.told (LineOf line ∷ []));
        next = a.next;
        few = omega (arith, long, less, same, few);
        calls = omega (arith, same, calls);
        stands = stops_again l k (AtLine line rest) m' a.stands e;
      }

  -- where it stops but at a line, nothing more has happened
  still : (stage : List Event → Replaying → Type 0) (stop : Stop) → Stopped stop
      → stage a.told (record { state = m'.state; number = v.next; calls = drop (v.next - (j.number + 1)) j.below })
      → Reached h j stage (record { state = m'.state; events = v.events; next = v.next })
  still stage stop e s =
      let less = fell_at v.state.steps stop m'.state.steps (left_at_stop p v.state.steps k t (record { state = v.state; log = l }) stop m' (omega arith) e) in
      let same = same_calls stop e in
      let few = a.few in
      let calls = a.calls in
      record {
        told = a.told;
        events = a.events;
        next = a.next;
        few = omega (arith, less, same, few);
        calls = omega (arith, same, calls);
        stands = s;
      }

  pub call_met : (f : ℕ) (args : List Value) (next : Out → ActTree) → Stopped (AtCall f args next)
      → Reached h j (λ told s. Met p told next s j.work) (record { state = m'.state; events = v.events; next = v.next })
  call_met f args next e = still (λ told s. Met p told next s j.work) (AtCall f args next) e (meets_next (stops_again l k (AtCall f args next) m' a.stands e))

  pub end_come : (end : End) → Stopped (AtEnd end)
      → Reached h j (λ told s. Over told end s j.work) (record { state = m'.state; events = v.events; next = v.next })
  end_come end e = still (λ told s. Over told end s j.work) (AtEnd end) e (stops_again l k (AtEnd end) m' a.stands e)

-- what a stop leaves of the steps and the calls
pub stop_steps : {p : ProgramRows} {t : ActTree} {m : Moment} {stop : Stop} {m' : Moment} → NextStopIs p t m stop m' → LeftAt m.state.steps stop m'.state.steps
stop_steps {p = p} {t = t} {m = m} {stop = stop} {m' = m'} s = left_at_stop p m.state.steps s.moves t m stop m' (omega arith) s.is

pub stop_fell : {p : ProgramRows} {t : ActTree} {m : Moment} {stop : Stop} {m' : Moment} → NextStopIs p t m stop m' → m'.state.steps ≤ m.state.steps
stop_fell {m = m} {stop = stop} {m' = m'} s = fell_at m.state.steps stop m'.state.steps (stop_steps s)

pub stop_calls : {p : ProgramRows} {t : ActTree} {m : Moment} {stop : Stop} {m' : Moment} → NextStopIs p t m stop m' → m'.state.calls ≡ m.state.calls
stop_calls {p = p} {t = t} {m = m} {stop = stop} {m' = m'} s = (onward p s.moves t m stop m' s.is).same.calls
