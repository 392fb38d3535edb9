-- Alike calls did the same: the records of both stand for a run from one entry, with ample steps and no calls before.
use Rattle.std.proofs.Common.{◌+◌, ◌∙◌, ◌≡◌, ◌≤◌, All, List, ap, arith, drop, refl, subst, sym, take}
use Rattle.std.specs.FinMap.{get}
use Rattle.cell_value.specs.Effects.{changes_of, given_of, made_of, taken_of}
use Rattle.core_program.proofs.OutcomesCompose.{some_same}
use Rattle.core_program.specs.{Agree.Agrees, Agree.Shows, Apply.steps_taken, ProgramRows.ProgramRows, State.IsSound, State.State}
use Rattle.core_program.specs.Run.{Call, Result, call_of, depth_enough, result_in, run, run_of, way_out}
use Rattle.core_program.specs.RunLaws.{RecordsStand, RunsKeepSound, StandsFor, calls_in}
use Rattle.body_replay.specs.Laws.{CallsCarryToThemselves}
use Rattle.answer_reuse.specs.{Alike.Alike, Alike.DidTheSame, Laws.AlikeAreAsLarge, Laws.AlikeDidTheSame, Laws.OfAlikeCalls}

-- two alike calls, each with the calls below it: each agrees with its own entry, and stands where its entry's state agrees
module _ (p : ProgramRows) (c d : Call) (below_c below_d : List Call) (a : Alike c d) (sound_d : IsSound d.entry) (own_c : Agrees c below_c c.entry)
    (own_d : Agrees d below_d d.entry)
  where
    -- the entry of the second, with steps for both and no calls before
    abbrev pub σ : State
    σ = record d.entry { steps = steps_taken c + steps_taken d; calls = 0; depth = 0 }

    pub sound : IsSound σ
    sound = record {
      stack = sound_d.stack;
      above_stack = sound_d.above_stack;
      above_heap = sound_d.above_heap;
      stack_fits = sound_d.stack_fits;
      heap_begins = sound_d.heap_begins;
      heap_fits = sound_d.heap_fits;
      input = sound_d.input;
      calls = omega arith;
      depth = omega arith;
    }

    pub first_agrees : Agrees c below_c σ
    first_agrees = record {
      way = a.way.0;
      top = sym a.top;
      fresh = λ h. sym (a.fresh (omega (arith, h)));
      cells = subst (λ l. All (λ (addr, seen). Shows (get d.entry.cells addr) seen) l) (sym a.reads) own_d.cells;
      items = λ n l. sym (a.items n l);
      steps = omega arith;
      calls = let k = own_c.calls in omega (arith, k);
      depth = let k = own_c.depth in omega (arith, k);
    }

    pub second_agrees : Agrees d below_d σ
    second_agrees = record {
      way = a.way.1;
      top = refl;
      fresh = λ h. refl;
      cells = own_d.cells;
      items = λ n l. refl;
      steps = omega arith;
      calls = let k = own_d.calls in omega (arith, k);
      depth = let k = own_d.depth in omega (arith, k);
    }

    module _ (first : StandsFor c σ (call_of p (run_of p (depth_enough p σ.steps)) c.routine c.args σ))
        (second : StandsFor d σ (call_of p (run_of p (depth_enough p σ.steps)) d.routine d.args σ))
      where
        -- both are one run, since it is of one routine with the same args
        one_run : first.run ≡ second.run
        one_run = some_same (sym first.is ∙ ap (λ f. call_of p (run_of p (depth_enough p σ.steps)) f c.args σ) a.routine
            ∙ ap (λ args. call_of p (run_of p (depth_enough p σ.steps)) d.routine args σ) a.args ∙ second.is)

        did : DidTheSame c d
        did = record {
          way = sym first.way ∙ ap (λ (r : Result State Call). way_out r.end) one_run ∙ second.way;
          result = sym first.result ∙ ap (λ (r : Result State Call). result_in r.end) one_run ∙ second.result;
          changes = sym first.changes ∙ ap (λ (r : Result State Call). changes_of σ.top r.log) one_run ∙ second.changes;
          made = sym first.made ∙ ap (λ (r : Result State Call). made_of r.log) one_run ∙ second.made;
          taken = sym first.taken ∙ ap (λ (r : Result State Call). taken_of r.log) one_run ∙ second.taken;
          given = sym first.given ∙ ap (λ (r : Result State Call). given_of r.log) one_run ∙ second.given;
        }

        -- from there both made as many calls
        as_large : c.below ≡ d.below
        as_large =
            let same : 0 + (c.below + 1) ≡ 0 + (d.below + 1) =
            sym (ap (λ (τ : State). τ.calls) first.after) ∙ ap (λ (r : Result State Call). r.after.calls) one_run ∙ ap (λ (τ : State). τ.calls) second.after
            in omega (arith, same)

        both_so : DidTheSame c d × (c.below ≡ d.below)
        both_so = (did, as_large)

both : RunsKeepSound → CallsCarryToThemselves → RecordsStand → OfAlikeCalls (λ c d. DidTheSame c d × (c.below ≡ d.below))
both sounds carry stand p W input budget r e j k c d at to a =
    let below_c = take c.below (drop (j + 1) (calls_in r)) in
    let below_d = take d.below (drop (k + 1) (calls_in r)) in
    let sound_d = (sounds p input budget r e k d to).0 in
    let own_c = (carry p input budget r e j c at a.way.0).0 in
    let own_d = (carry p input budget r e k d to a.way.1).0 in
    let τ = σ p c d below_c below_d a sound_d own_c own_d in
    let s = sound p c d below_c below_d a sound_d own_c own_d in
    let deep : depth_enough p τ.steps ≤ depth_enough p τ.steps = omega arith in
    let first = stand p input budget r e j c at W τ s (first_agrees p c d below_c below_d a sound_d own_c own_d) (depth_enough p τ.steps) deep in
    let second = stand p input budget r e k d to W τ s (second_agrees p c d below_c below_d a sound_d own_c own_d) (depth_enough p τ.steps) deep in
    both_so p c d below_c below_d a sound_d own_c own_d first second

pub did_the_same : RunsKeepSound → CallsCarryToThemselves → RecordsStand → AlikeDidTheSame
did_the_same sounds carry stand p W input budget r e j k c d at to a = (both sounds carry stand p W input budget r e j k c d at to a).0

pub are_as_large : RunsKeepSound → CallsCarryToThemselves → RecordsStand → AlikeAreAsLarge
are_as_large sounds carry stand p W input budget r e j k c d at to a = (both sounds carry stand p W input budget r e j k c d at to a).1
