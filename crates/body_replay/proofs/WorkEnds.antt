-- The work of a call that was entered: its frame, and its end.
use Rattle.std.proofs.Common.{◌+◌, ◌-◌, ◌∙◌, ◌∷◌, ◌≡◌, [], ℕ, IsSome, List, None, Option, Some, ap, arith, drop, is_some, map, refl, subst, sym}
use Rattle.std.specs.List.{All}
use Rattle.cell_value.specs.declared.ways_out.WayOut.{WayOut}
use Rattle.core_program.proofs.OutcomesCompose.{none_some, some_same}
use Rattle.core_program.specs.{ProgramRows.ProgramRows, ProgramRows.routine_at, RunLaws.IsMet, State.State, Tree.ActTree, declared.program.Routine.Routine}
use Rattle.core_program.specs.Replay.{Event, Replaying, in_replaying, on_state, replay_of}
use Rattle.core_program.specs.Run.{End, Halted, Result, at_work, ends, frame_size, framed_run, result_in, way_out, whole, without_frame}
use Rattle.call_tree.specs.declared.records.Call as table
use Rattle.eval_ops.specs.Machines.{machine_state}
use Rattle.program_run.specs.declared.{history.History.History, runner.Begun.TheVariants.Ended, runner.Begun.TheVariants.Framed}
use Rattle.body_replay.proofs.FramesAgain.{fits, framed_again, on_framing, went_fell, work_from}
use Rattle.body_replay.proofs.WorkBegins.{Before, before_change}
use Rattle.body_replay.specs.{Replays.kept_event, Traces.EndsAs, Traces.FrameMade, Traces.FrameToMake, Traces.changed_result, declared.framed.WorkEnd.WorkEnd}
use Rattle.body_replay.specs.Again.{Job, LeadsTo, Over, Reached, ReplayView, happened}

kept_all : (es : List _) → map kept_event (happened es) ≡ map (λ e. kept_event e.event) es
kept_all [] = refl
kept_all (e ∷ es) = ap (λ l. kept_event e.event ∷ l) (kept_all es)

-- the work in a frame ended, and the frame was removed
pub ends_so : {h : History} {j : Job h} {end : End} {v : ReplayView} (change : State → State) (e : WorkEnd) → Reached h j (λ told s. Over told end s j.work) v
    → way_out end ≡ e.way → result_in end ≡ e.answer → machine_state e.machine ≡ change v.state → e.events ≡ v.events
    → EndsAs (changed_result change j.work) e
ends_so {j = j} change e r w a s es = record {
  way = ap way_out r.stands.ends ∙ w;
  result = ap result_in r.stands.ends ∙ a;
  after = ap (λ x. change x.state) r.stands.after ∙ sym s;
  events = sym (kept_all j.work.events) ∙ ap (map kept_event) r.stands.events ∙ sym r.events ∙ sym es;
}

-- a call that did nothing, and ended so
pub record DidNothing (out : WayOut) (σ : State) (e : WorkEnd) : Type 0 where
  pub way : e.way ≡ out
  pub answer : e.answer ≡ None
  pub machine : machine_state e.machine ≡ σ
  pub events : e.events ≡ []

halts : {work : Result Replaying Event} (way : WayOut) (s : Replaying) (e : WorkEnd) → ends (Halted way) s ≡ Some work → DidNothing way s.state e
    → EndsAs work e
halts way s e q d =
    let same = sym (some_same q) in
    record {
      way = ap (λ (z : Result Replaying Event). way_out z.end) same ∙ sym d.way;
      result = ap (λ (z : Result Replaying Event). result_in z.end) same ∙ sym d.answer;
      after = ap (λ (z : Result Replaying Event). z.after.state) same ∙ sym d.machine;
      events = ap (λ (z : Result Replaying Event). map (λ e. kept_event e.event) z.events) same ∙ sym d.events;
    }

module _ {p : ProgramRows} {h : History} {j : Job h} {row : table.Call} {σ : State} (n : FrameToMake p h j row σ) where
  abbrev first : Replaying
  first = record { state = σ; number = j.number + 1; calls = j.below }

  -- its routine is there
  pub routine_there : IsSome (routine_at p row.routine)
  routine_there = by (routine_at p row.routine) refl
    where
      by : (o : Option Routine) → routine_at p row.routine ≡ o → IsSome (routine_at p row.routine)
      by None e = absurd (none_some (sym (ap (framed_run in_replaying (at_work p (replay_of p n.depth) row.routine) row.args first) e) ∙ n.is))
      by (Some r) e = ap is_some e

  -- a frame that was not made
  pub ends_unframed : (r : Routine) (τ : State) (way : WayOut) (e : WorkEnd) → routine_at p row.routine ≡ Some r
      → FrameMade r row.args σ (Ended way) τ → DidNothing way τ e → EndsAs j.work e
  ends_unframed r τ way e found m d = halts way (record first { state = τ }) e
      (ap (λ w. ends (Halted w) (record first { state = τ })) (sym m.3)
      ∙ sym (framed_again p n.depth row.routine row.args r first found
      ∙ ap (λ d. on_framing d (λ τ. record first { state = τ }) (work_from p n.depth row.routine r row.args first)) m.2) ∙ n.is) d

  module _ (r : Routine) (τ : State) (found : routine_at p row.routine ≡ Some r) (cells : ℕ) (m : FrameMade r row.args σ (Framed cells) τ) where
    -- what is left of it in the frame
    framed : Before (on_state (without_frame σ.top (frame_size r row.args))) (replay_of p n.depth (whole p row.routine σ.top r) (record first { state = τ }))
        j.work
    framed = before_change (on_state (without_frame σ.top (frame_size r row.args)))
        (replay_of p n.depth (whole p row.routine σ.top r) (record first { state = τ })) j.work
        (sym (framed_again p n.depth row.routine row.args r first found
        ∙ ap (λ d. on_framing d (λ τ. record first { state = τ }) (work_from p n.depth row.routine r row.args first)) m.1) ∙ n.is)

    pub job_in_frame : Job h
    job_in_frame = record {
      number = j.number;
      below = j.below;
      work = framed.rest;
      met = subst (λ es. All (λ e. IsMet (j.number + 1) j.below e.event) es) framed.events j.met;
      known = j.known;
    }

    abbrev begun : ReplayView
    begun = record { state = τ; events = []; next = j.number + 1 }

    -- at the beginning all of the routine is to be done
    pub rests_at_first : (t : ActTree) → t ≡ whole p row.routine σ.top r → (v : ReplayView) → v ≡ begun
        → Reached h job_in_frame (λ told s. LeadsTo p told t s job_in_frame.work) v
    unfolding job_in_frame framed
    rests_at_first t e v same =
        let none : j.below ≡ drop (j.number + 1 - (j.number + 1)) j.below =
        ap (λ k. drop k j.below) (let z : 0 ≡ j.number + 1 - (j.number + 1) = omega arith in z) in
        let fell = went_fell r row.args σ τ m.0 m.1 in
        let calls_same = (fits r row.args σ τ m.0 m.1).calls in
        let few = n.few in
        let calls = n.calls in
        let goes : LeadsTo p [] (whole p row.routine σ.top r) (record first { state = τ }) framed.rest =
        record { depth = n.depth; rest = framed.rest; is = framed.is; past = record { end = refl; after = refl; events = refl } } in
        let from : LeadsTo p [] (whole p row.routine σ.top r) (record {
          state = τ;
          number = j.number + 1;
          calls = drop (j.number + 1 - (j.number + 1)) j.below;
        })
        framed.rest = subst (λ l. LeadsTo p [] (whole p row.routine σ.top r) (record { state = τ; number = j.number + 1; calls = l }) framed.rest) none goes in
        subst (Reached h job_in_frame (λ told s. LeadsTo p told t s job_in_frame.work)) (sym same) (record {
          told = [];
          events = refl;
          next = omega arith;
          few = omega (arith, few, fell);
          calls = omega (arith, calls_same, calls);
          stands = subst (λ t. LeadsTo p [] t (record { state = τ; number = j.number + 1; calls = drop (j.number + 1 - (j.number + 1)) j.below }) framed.rest)
              (sym e) from;
        })

    -- what is over in the frame is over
    ends_of_size : (e : WorkEnd) → EndsAs (changed_result (without_frame σ.top (frame_size r row.args)) job_in_frame.work) e → EndsAs j.work e
    unfolding job_in_frame
    ends_of_size e d = record {
      way = ap way_out framed.end ∙ d.way;
      result = ap result_in framed.end ∙ d.result;
      after = ap (λ (s : Replaying). s.state) framed.after ∙ d.after;
      events = ap (λ es. map (λ e. kept_event e.event) es) framed.events ∙ d.events;
    }

    pub ends_framed : (e : WorkEnd) → EndsAs (changed_result (without_frame σ.top cells) job_in_frame.work) e → EndsAs j.work e
    ends_framed e d = ends_of_size e (subst (λ n. EndsAs (changed_result (without_frame σ.top n) job_in_frame.work) e) m.2 d)
