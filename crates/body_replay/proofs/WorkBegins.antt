-- How a call's own work begins when it is done again.
use Rattle.std.proofs.Common.{◌+◌, ◌<◌, ◌∙◌, ◌∷◌, ◌≡◌, ◌≤◌, [], ℕ, List, None, Some, ap, arith, drop, length, length-append, map, refl, subst, suc, sym, take}
use Rattle.std.proofs.{Common.zero, lemmas.List.length-drop, lemmas.List.length-map, lemmas.Option.slice_get_within}
use Rattle.std.specs.{List.All, List.slice_get, Option.option_map}
use Rattle.core_program.{proofs.OutcomesCompose.none_some, proofs.OutcomesCompose.some_same, specs.RunLaws.IsBody, specs.RunLaws.IsMet, specs.RunLaws.calls_in}
use Rattle.core_program.proofs.{LawsOfRuns.begins_sound, LawsOfRuns.body_is, RunsLeave.ran_leaves, Ways.run_gives}
use Rattle.core_program.specs.{Numbering.belows, Numbering.each_from, ProgramRows.ProgramRows, ProgramRows.routine_at, State.State}
use Rattle.core_program.specs.Replay.{Event, Replayed, Replaying, body, in_replaying, on_state, replay_of}
use Rattle.core_program.specs.Run.{Call, Marked, Result, after_all, at_work, block, call_closed, depth_enough, framed_run, opened, result_in, start, way_out}
use Rattle.call_tree.specs.declared.records.Call as table
use Rattle.eval_ops.specs.{Machines.AllowsCall, Machines.IsReady, Machines.machine_state, declared.machine.Machine.Machine}
use Rattle.program_run.specs.{History.IsOfRun, Table.table_row, declared.history.History.History}
use Rattle.body_replay.proofs.RecordsOfRuns.{Kept, RowOf, RunOf, before_is, room_for, row_of_run, run_of_history, work_is}
use Rattle.body_replay.specs.{Again.Job, Again.KnownCall, Traces.EndsAs, Traces.FrameToMake, Traces.IsEndOf, declared.framed.WorkEnd.WorkEnd}
use Rattle.body_replay.specs.Replays.{before_of, events_in, kept_event, work_in}

get_taken : {X : Type 0} (n i : ℕ) (xs : List X) (x : X) → slice_get (take n xs) i ≡ Some x → slice_get xs i ≡ Some x
get_taken zero i xs x e = absurd (let z : ⊥ = cc in z)
get_taken (suc n) i [] x e = absurd (let z : ⊥ = cc in z)
get_taken (suc n) zero (y ∷ xs) x e = e
get_taken (suc n) (suc i) (y ∷ xs) x e = get_taken n i xs x e

get_dropped : {X : Type 0} (n i : ℕ) (xs : List X) (x : X) → slice_get (drop n xs) i ≡ Some x → slice_get xs (n + i) ≡ Some x
get_dropped zero i xs x e = ap (slice_get xs) (let z : 0 + i ≡ i = omega arith in z) ∙ e
get_dropped (suc n) i [] x e = absurd (let z : ⊥ = cc in z)
get_dropped (suc n) i (y ∷ xs) x e = ap (slice_get (y ∷ xs)) (let z : suc n + i ≡ suc (n + i) = omega arith in z) ∙ get_dropped n i xs x e

each_there : {A B : Type 0} (f : ℕ → A → B) (j k : ℕ) (xs : List A) (x : A) → slice_get xs k ≡ Some x → slice_get (each_from f j xs) k ≡ Some (f (j + k) x)
each_there f j k [] x e = absurd (none_some e)
each_there f j zero (y ∷ xs) x e =
    ap (λ z. Some (f j z)) (some_same e) ∙ ap (λ n. Some (f n x)) (let z : j ≡ j + 0 = omega arith in z)
each_there f j (suc k) (y ∷ xs) x e =
    each_there f (suc j) k xs x e ∙ ap (λ n. Some (f n x)) (let z : suc j + k ≡ j + suc k = omega arith in z)

record Source {A B : Type 0} (f : A → B) (xs : List A) (k : ℕ) : Type 0 where
  element : A
  stands : slice_get xs k ≡ Some element

source : {A B : Type 0} (f : A → B) (xs : List A) (k : ℕ) (y : B) → slice_get (map f xs) k ≡ Some y → Source f xs k
source f [] k y e = absurd (none_some e)
source f (x ∷ xs) zero y e = record { element = x; stands = refl }
source f (x ∷ xs) (suc k) y e = let s = source f xs k y e in record { element = s.element; stands = s.stands }

module _ {p : ProgramRows} {input : List ℕ} {h : History} (g : RunOf p input h) where
  pub few_calls : length (calls_in g.result) ≤ 500000
  few_calls =
      let l = (ran_leaves p (run_gives p (depth_enough p h.budget) block (start input h.budget) g.result g.is) (begins_sound input h.budget)).leaves in
      let a = l.calls in
      let b = l.sound.calls in
      let e = length-map g.result.events (λ e. e.event) in
      omega (arith, a, b, e)

  pub few_numbers : (n : ℕ) (c : Call) → slice_get (calls_in g.result) n ≡ Some c → n < 500000
  few_numbers n c e =
      let here = slice_get_within (calls_in g.result) n c e in
      let few = few_calls in
      omega (arith, here, few)

  -- what the history tells of a call of the run
  known_at : length h.input < 4294967296 → (n : ℕ) (c : Call) → slice_get (calls_in g.result) n ≡ Some c → KnownCall h n c
  known_at items n c e =
      let ms = g.result.events in
      let s = source (λ (e : Marked Call). e.event) ms n c e in
      let row : table.Call = table_row (belows ms) (0 + n) s.element in
      let there : slice_get h.calls.calls n ≡ Some row =
      ap (λ rows. slice_get rows n) g.calls ∙ each_there (table_row (belows ms)) 0 n ms s.element s.stands in
      let r = row_of_run g n row there in
      let same : r.call ≡ c = some_same (sym r.stands ∙ e) in
      let room = r.made.room in
      let many = length-drop (n + 1) (calls_in g.result) in
      let here = slice_get_within (calls_in g.result) n c e in
      let few = few_calls in
      let last : n + r.call.below < 500000 = omega (arith, room, many, here, few) in
      subst (KnownCall h n) same (record {
        row = row;
        stands = there;
        recorded = r.recorded;
        told = r.told;
        items = r.items;
        room = room_for g r items;
        last = last;
      })

  -- and of those below one of its calls
  known_below : length h.input < 4294967296 → (number below i : ℕ) (c : Call) → slice_get (take below (drop (number + 1) (calls_in g.result))) i ≡ Some c
      → KnownCall h (number + 1 + i) c
  known_below items number below i c e = known_at items (number + 1 + i) c (get_dropped (number + 1) i (calls_in g.result) c
      (get_taken below i (drop (number + 1) (calls_in g.result)) c e))

-- what a change after all was made to
pub record Before (change : Replaying → Replaying) (x : Replayed) (r : Result Replaying Event) : Type 0 where
  pub rest : Result Replaying Event
  pub is : x ≡ Some rest
  pub end : r.end ≡ rest.end
  pub after : r.after ≡ change rest.after
  pub events : r.events ≡ rest.events

pub before_change : (change : Replaying → Replaying) (x : Replayed) (r : Result Replaying Event) → after_all change x ≡ Some r → Before change x r
before_change change None r e = absurd (none_some e)
before_change change (Some y) r e = record {
  rest = y;
  is = refl;
  end = ap (λ z. z.end) (sym (some_same e));
  after = ap (λ z. z.after) (sym (some_same e));
  events = ap (λ z. z.events) (sym (some_same e));
}

-- ---- the work of a call

-- a machine that is in the state before a call
pub record IsBefore (h : History) (row : table.Call) (m : Machine) : Type 0 where
  pub state : machine_state m ≡ before_of row h
  pub log : m.log ≡ []

module _ {p : ProgramRows} {input : List ℕ} {h : History} (g : RunOf p input h) {number : ℕ} {row : table.Call}
    (r : RowOf p h (calls_in g.result) number row)
  where
    abbrev below : List Call
    below = take r.call.below (drop (number + 1) (calls_in g.result))

    abbrev depth : ℕ
    depth = depth_enough p r.call.entry.steps

    abbrev first : Replaying
    first = record { state = opened r.call.entry; number = number + 1; calls = below }

    abbrev framed : Replayed
    framed = framed_run in_replaying (at_work p (replay_of p depth) r.call.routine) r.call.args first (routine_at p r.call.routine)

    the_body : IsBody number r.call below (body p depth r.call number below)
    the_body = body_is p g.kept.whole number r.call (drop (number + 1) (calls_in g.result)) r.made depth (omega arith)

    -- what is left of it once the call is open
    in_call : Before (on_state (call_closed r.call.depth)) framed the_body.run
    in_call = before_change (on_state (call_closed r.call.depth)) framed the_body.run the_body.is

    pub job : length h.input < 4294967296 → Job h
    job items = record {
      number = number;
      below = below;
      work = in_call.rest;
      met = subst (λ es. All (λ e. IsMet (number + 1) below e.event) es) in_call.events the_body.met;
      known = known_below g items number r.call.below;
    }

    pub job_number : (items : length h.input < 4294967296) → (job items).number ≡ number
    unfolding job
    job_number items = refl

    -- the row tells where the output was
    pub output_before : row.entry.output ≤ length h.output
    output_before =
        let at = ap (λ (x : table.Call). x.entry.output) r.recorded.is in
        let all = ap length r.tells.given ∙ length-append r.call.entry.output r.tells.rest in
        omega (arith, at, all)

    module _ {m : Machine} (b : IsBefore h row m) where
      at_entry : machine_state m ≡ r.call.entry
      at_entry = b.state ∙ before_is g r

      pub ready_before : IsReady m
      ready_before =
          let top = ap (λ (σ : State). σ.top) at_entry in
          let steps = ap (λ (σ : State). σ.steps) at_entry in
          let fits = r.made.sound.stack_fits in
          let few = r.tells.steps in
          let budget = g.kept.budget in
          let none = ap length b.log in
          record { stack = omega (arith, top, fits); room = omega (arith, none, steps, few, budget) }

      pub room_before : AllowsCall m
      room_before =
          let calls = ap (λ (σ : State). σ.calls) at_entry in
          let depth = ap (λ (σ : State). σ.depth) at_entry in
          let a = r.made.limits.calls in
          let d = r.made.limits.depth in
          record { calls = omega (arith, calls, a); depth = omega (arith, depth, d) }

      -- once it is entered, its work is to be done
      pub entered : (items : length h.input < 4294967296) (σ : State) → σ ≡ opened (machine_state m) → FrameToMake p h (job items) row σ
      unfolding job in_call
      entered items σ e =
          let same : opened r.call.entry ≡ σ = sym (e ∙ ap opened at_entry) in
          let few = r.tells.steps in
          let budget = g.kept.budget in
          let a = r.made.limits.calls in
          subst (FrameToMake p h (job items) row) same (record {
            depth = depth;
            is = subst (λ (row : table.Call). framed_run in_replaying (at_work p (replay_of p depth) row.routine) row.args first (routine_at p row.routine)
                ≡ Some in_call.rest) (sym r.recorded.is) in_call.is;
            few = omega (arith, few, budget);
            calls = omega (arith, a);
          })

    pub is_end : (items : length h.input < 4294967296) (e : WorkEnd) → EndsAs (job items).work e → IsEndOf (work_in p input h number) row e
    unfolding in_call job
    is_end items e d =
        let q : work_in p input h number ≡ Some the_body.run = work_is g r ∙ the_body.is in
        let depth_is : r.call.depth ≡ row.depth = sym (r.tells.depth ∙ ap (λ (c : Call). c.depth) r.made.record') in
        let left : the_body.run.after.state ≡ call_closed r.call.depth (machine_state e.machine) = ap (λ (s : Replaying). s.state) in_call.after
        ∙ ap (call_closed r.call.depth) d.after in
        record {
          events = sym d.events ∙ ap (λ es. map (λ e. kept_event e.event) es) (sym in_call.events) ∙ ap events_in (sym q);
          way = ap (option_map (λ w. way_out w.end)) q ∙ ap (λ z. Some (way_out z)) in_call.end ∙ ap Some d.way;
          result = ap (option_map (λ w. result_in w.end)) q ∙ ap (λ z. Some (result_in z)) in_call.end ∙ ap Some d.result;
          exit = ap (option_map (λ w. w.after.state)) q ∙ ap Some left ∙ ap (λ n. Some (call_closed n (machine_state e.machine))) depth_is;
          steps = ap (λ (σ : State). σ.steps) (sym left) ∙ ap (λ (σ : State). σ.steps) the_body.exit
              ∙ ap (λ (x : table.Call). x.exit.steps) (sym r.recorded.is);
        }

pub items_few : (h : History) (row : table.Call) (m : Machine) → machine_state m ≡ before_of row h → length m.items < 4294967296
    → length h.input < 4294967296
items_few h row m e few = subst (λ n. n < 4294967296) (ap (λ (σ : State). length σ.items) e) few

-- a call's work was done from the state before it
pub record Done (p : ProgramRows) (h : History) (number : ℕ) (row : table.Call) (e : WorkEnd) : Type 0 where
  pub at : slice_get h.calls.calls number ≡ Some row
  pub kept : Kept p h
  pub items : length h.input < 4294967296
  pub machine : Machine
  pub before : IsBefore h row machine
  pub state : State
  pub entered : state ≡ opened (machine_state machine)
  pub ends : (j : Job h) → j.number ≡ number → FrameToMake p h j row state → EndsAs j.work e

pub is_done : {p : ProgramRows} {input : List ℕ} {h : History} {number : ℕ} {row : table.Call} {e : WorkEnd} → Done p h number row e
    → IsOfRun p input h.budget h → IsEndOf (work_in p input h number) row e
is_done {number = number} {row = row} {e = e} d is =
    let g = run_of_history d.kept is in
    let r = row_of_run g number row d.at in
    is_end g r d.items e (d.ends (job g r d.items) (job_number g r d.items) (entered g r d.before d.items d.state d.entered))
