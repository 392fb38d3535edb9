-- What a call's row and what is found in its part of the log say of a state says of it what the call's record says.
use Rattle.std.proofs.Common.{◌++◌, ◌+◌, ◌-◌, ◌<◌, ◌↔◌, ◌∙◌, ◌∷◌, ◌≡◌, ◌≤◌, [], ℕ, Bool, List, Some, ap, arith, drop, false, fold, length, map, max, refl}
use Rattle.std.proofs.Common.{slice_range, subst, suc, sym, take, true, zero}
use Rattle.std.{proofs.Math.Seq.drop-append_seam, proofs.lemmas.Option.slice_get_within, specs.FinMap.get, specs.List.All, specs.List.slice_get}
use Rattle.std.proofs.lemmas.List.{drop-map, length-drop, length-map, take-map, take_at}
use Rattle.cell_value.specs.Effects.{changes_of, given_of, looked_of, made_of, reads_of, taken_of}
use Rattle.cell_value.specs.declared.entries.Touch.{Touch}
use Rattle.core_program.proofs.{LawsOfRuns.all_recorded, OutcomesCompose.some_same, RecordsStand.stands, RunsLeave.call_leaves, RunsRecord.Recorded}
use Rattle.core_program.specs.{Agree.Agrees, Agree.EndedByItself, Agree.Shows, Agree.deepest, Apply.apply, Apply.changed_cells, Apply.steps_taken}
use Rattle.core_program.specs.{Numbering.StandsAt, ProgramRows.ProgramRows, RunLaws.calls_in, State.IsSound, State.State}
use Rattle.core_program.specs.Run.{Call, Marked, Outcome, input_items, run}
use Rattle.effect_log.specs.declared.by_maps.Footprint.{Footprint}
use Rattle.call_tree.specs.{Recording.depths_of, Told.part_of}
use Rattle.call_tree.specs.declared.records.Call as table
use Rattle.program_run.{proofs.RowsTellTheStates.AllTell, specs.History.IsOfRun, specs.Table.table_of, specs.declared.history.History.History}
use Rattle.body_replay.proofs.{AgreementIsTested.is_tested, WorkBegins.few_calls}
use Rattle.body_replay.proofs.CallsCarry.{agrees_itself, has_the_items, shallow, took_what_it_saw}
use Rattle.body_replay.proofs.RecordsOfRuns.{Kept, RowOf, RunOf, all_tell, row_of_run, run_of_history}
use Rattle.body_replay.specs.{Agreement.agrees, Agreement.agrees_at, Agreement.carries, ByRows.HasRoomAt, ByRows.IsEffectOf, ByRows.MeetsTheSame}
use Rattle.body_replay.specs.{ByRows.applied, Carried.OfCall, Carried.RunsTo, Replays.records_of, Traces.kept_state, declared.kept_state.KeptState.KeptState}

part_is : (log : List Touch) (mark : ℕ) (w : List Touch) → StandsAt log mark w → slice_range log mark (mark + length w) ≡ w
part_is log mark w s =
    ap (λ n. take n (drop mark log)) (let z : mark + length w - mark ≡ length w = omega arith in z)
    ∙ ap (λ l. take (length w) (drop mark l)) s.is
    ∙ ap (λ n. take (length w) (drop n (s.before ++ (w ++ s.later)))) (sym s.at)
    ∙ ap (take (length w)) (drop-append_seam s.before (w ++ s.later))
    ∙ take_at w s.later (length w) refl

depths_tell : (p : ProgramRows) (xs : List ℕ) (most : ℕ) (output : List ℕ) (rows : List table.Call) (ms : List (Marked Call))
    → AllTell most output rows ms → Recorded p xs (map (λ e. e.event) ms) → depths_of rows ≡ map (λ c. c.depth) (map (λ e. e.event) ms)
depths_tell p xs most output [] [] h k = refl
depths_tell p xs most output [] (m ∷ ms) h k = absurd h
depths_tell p xs most output (row ∷ rows) [] h k = absurd h
depths_tell p xs most output (row ∷ rows) (m ∷ ms) h k =
    let own : row.depth ≡ m.event.depth = h.0.depth ∙ ap (λ (c : Call). c.depth) k.0.record' in
    λ i. own i ∷ depths_tell p xs most output rows ms h.1 k.2 i

module _ {p : ProgramRows} {input : List ℕ} {h : History} (g : RunOf p input h) {number : ℕ} {row : table.Call}
    (r : RowOf p h (calls_in g.result) number row)
  where
    abbrev pub c : Call
    c = r.call

    abbrev pub below : List Call
    below = take r.call.below (drop (number + 1) (calls_in g.result))

    part : part_of h.log row ≡ r.call.log
    part = ap (λ (q : table.Call). part_of h.log q) r.recorded.is ∙ part_is h.log r.recorded.mark r.call.log r.recorded.stands

    depths : depths_of h.calls.calls ≡ map (λ c. c.depth) (calls_in g.result)
    depths = ap depths_of g.calls
        ∙ depths_tell p (input_items input) h.budget h.output (table_of g.result.events) g.result.events (all_tell g)
        (all_recorded p input h.budget g.result g.is)

    depth_is : row.depth ≡ r.call.depth
    depth_is = r.tells.depth ∙ ap (λ (c : Call). c.depth) r.made.record'

    many : row.last - number ≡ r.call.below
    many = let a = ap (λ (q : table.Call). q.last) r.recorded.is in omega (arith, a)

    deepest_is : fold max row.depth (take (row.last - number) (drop (number + 1) (depths_of h.calls.calls))) ≡ deepest r.call below
    deepest_is =
        ap (λ d. fold max d (take (row.last - number) (drop (number + 1) (depths_of h.calls.calls)))) depth_is
        ∙ ap (λ n. fold max r.call.depth (take n (drop (number + 1) (depths_of h.calls.calls)))) many
        ∙ ap (λ l. fold max r.call.depth (take r.call.below (drop (number + 1) l))) depths
        ∙ ap (λ l. fold max r.call.depth (take r.call.below l)) (drop-map (λ c. c.depth) (number + 1) (calls_in g.result))
        ∙ ap (fold max r.call.depth) (take-map (λ c. c.depth) r.call.below (drop (number + 1) (calls_in g.result)))

    rows_many : length h.calls.calls ≡ length (calls_in g.result)
    rows_many = sym (length-map h.calls.calls (λ call. call.depth)) ∙ ap length depths ∙ length-map (calls_in g.result) (λ c. c.depth)

    pub last_there : row.last < length h.calls.calls
    last_there =
        let room = r.made.room in
        let rest = length-drop (number + 1) (calls_in g.result) in
        let here = slice_get_within (calls_in g.result) number r.call r.stands in
        let last = ap (λ (q : table.Call). q.last) r.recorded.is in
        let same = rows_many in
        omega (arith, room, rest, here, last, same)

    pub from_itself : number ≤ row.last
    from_itself = let last = ap (λ (q : table.Call). q.last) r.recorded.is in omega (arith, last)

    pub few_rows : length h.calls.calls ≤ 500000
    few_rows = let same = rows_many in let few = few_calls g in omega (arith, same, few)

    steps_is : row.entry.steps - row.exit.steps ≡ steps_taken r.call
    steps_is = ap (λ (q : table.Call). q.entry.steps - q.exit.steps) r.recorded.is

    way_is : row.way ≡ r.call.way
    way_is = ap (λ (q : table.Call). q.way) r.recorded.is

    top_is : row.entry.top ≡ r.call.entry.top
    top_is = ap (λ (q : table.Call). q.entry.top) r.recorded.is

    fresh_is : row.entry.fresh ≡ r.call.entry.fresh
    fresh_is = ap (λ (q : table.Call). q.entry.fresh) r.recorded.is

    place_is : row.entry.place ≡ r.call.entry.place
    place_is = ap (λ (q : table.Call). q.entry.place) r.recorded.is

    module _ (k : KeptState) where
      pub room_of : Agrees c below (kept_state k) → HasRoomAt h.calls.calls number row k
      room_of a = record {
        steps = let b = a.steps in let q = steps_is in omega (arith, b, q);
        calls = let b = a.calls in let q = many in omega (arith, b, q);
        depth = let b = a.depth in let d = deepest_is in let e = depth_is in omega (arith, b, d, e);
      }

      pub way_of_agreed : Agrees c below (kept_state k) → EndedByItself row.way
      way_of_agreed a = subst EndedByItself (sym way_is) a.way

      module _ {f : Footprint} (e : IsEffectOf h.log row f) where
        made_is : f.made ≡ made_of r.call.log
        made_is = e.made ∙ ap made_of part

        taken_is : f.taken ≡ taken_of r.call.log
        taken_is = e.taken ∙ ap taken_of part

        looked_is : f.looked ≡ looked_of r.call.entry.place r.call.log
        looked_is = e.looked ∙ ap (λ n. looked_of n (part_of h.log row)) place_is ∙ ap (looked_of r.call.entry.place) part

        reads_is : f.reads ≡ reads_of r.call.base r.call.log
        reads_is = e.reads ∙ ap (λ b. reads_of b (part_of h.log row)) (top_is ∙ sym r.recorded.base) ∙ ap (reads_of r.call.base) part

        changes_is : f.changes ≡ changes_of r.call.base r.call.log
        changes_is = e.changes ∙ ap (λ b. changes_of b (part_of h.log row)) (top_is ∙ sym r.recorded.base) ∙ ap (changes_of r.call.base) part

        given_is : f.given ≡ given_of r.call.log
        given_is = e.given ∙ ap given_of part

        pub same_of : Agrees c below (kept_state k) → MeetsTheSame h.input row f k
        same_of a = record {
          top = a.top ∙ sym top_is;
          fresh = λ l. a.fresh (subst (λ n. 0 < n) made_is l) ∙ sym fresh_is;
          cells = subst (All (λ (addr, seen). Shows (get k.store addr) seen)) (sym reads_is) a.cells;
          items = λ n l. a.items n (subst (λ m. n < m) looked_is l)
              ∙ ap (λ xs. slice_get xs (r.call.entry.place + n)) r.items ∙ ap (λ m. slice_get h.input (m + n)) (sym place_is);
        }

        pub agreed : EndedByItself row.way → HasRoomAt h.calls.calls number row k → MeetsTheSame h.input row f k → Agrees c below (kept_state k)
        agreed w room m = record {
          way = subst EndedByItself way_is w;
          top = m.top ∙ top_is;
          fresh = λ l. m.fresh (subst (λ n. 0 < n) (sym made_is) l) ∙ fresh_is;
          cells = subst (All (λ (addr, seen). Shows (get k.store addr) seen)) reads_is m.cells;
          items = λ n l. m.items n (subst (λ m. n < m) (sym looked_is) l)
              ∙ ap (λ m. slice_get h.input (m + n)) place_is ∙ ap (λ xs. slice_get xs (r.call.entry.place + n)) (sym r.items);
          steps = let b = room.steps in let q = steps_is in omega (arith, b, q);
          calls = let b = room.calls in let q = many in omega (arith, b, q);
          depth = let b = room.depth in let d = deepest_is in let e = depth_is in omega (arith, b, d, e);
        }

        pub applied_is : (σ : State) → applied number row f σ ≡ apply c σ
        applied_is σ = λ i. record {
          cells = changed_cells (changes_is i) σ.cells;
          top = σ.top;
          fresh = σ.fresh + made_is i;
          items = σ.items;
          place = σ.place + taken_is i;
          output = σ.output ++ given_is i;
          steps = σ.steps - steps_is i;
          calls = σ.calls + (many i + 1);
          depth = σ.depth;
        }

        -- the counts of the state have room for what the call made and took
        pub fresh_fits : Agrees c below (kept_state k) → 0 < f.made → k.fresh + f.made ≤ 1048576
        fresh_fits a l =
            let same = a.fresh (subst (λ n. 0 < n) made_is l) in
            let y = r.made.result in
            let leaves = (call_leaves p r.made.ran r.made.sound r.made.limits).leaves in
            let m : made_of y.log ≡ made_of r.call.log = ap (λ (c : Call). made_of c.log) r.made.record' in
            let b = leaves.fresh in
            let d = leaves.sound.heap_fits in
            let q = made_is in
            omega (arith, same, m, b, d, q)

        pub place_fits : Agrees c below (kept_state k) → 0 < f.taken → k.place + f.taken ≤ length k.input
        place_fits a l =
            let itself = agrees_itself r.made a.way
            (shallow p (input_items input) c (number + 1) (calls_in g.result) (all_recorded p input h.budget g.result g.is) r.made) in
            let saw = took_what_it_saw g.kept.whole r.made itself in
            let told = r.told.in_input in
            let there : r.call.entry.place + taken_of r.call.log ≤ length r.call.entry.items =
            let a = ap taken_of part in let b = place_is in let c = ap length r.items in omega (arith, told, a, b, c) in
            let fits = has_the_items a saw there (subst (λ n. 0 < n) taken_is l) in
            let q = taken_is in
            omega (arith, fits, q)

    pub runs_to : (σ : State) → Agrees c below σ → IsSound σ → RunsTo p c σ (apply c σ)
    runs_to σ a s depth deep =
        let x = stands p g.kept.whole c (drop (number + 1) (calls_in g.result)) r.made σ s a depth deep in
        record { run = x.run; is = x.is; way = x.way; result = x.result; after = x.after }

-- what holds of the call of a row, with the calls below it, holds of the call of that number
pub for_call : {p : ProgramRows} {h : History} {number : ℕ} {row : table.Call} (P : Call → List Call → Type 0) → Kept p h
    → slice_get h.calls.calls number ≡ Some row
    → ((input : List ℕ) → IsOfRun p input h.budget h → (g : RunOf p input h) (r : RowOf p h (calls_in g.result) number row) → P r.call (below g r))
    → OfCall p h number P
for_call {p = p} {h = h} {number = number} {row = row} P k at f input is =
    let g = run_of_history k is in
    let r = row_of_run g number row at in
    subst (λ (o : Outcome). (c : Call) → slice_get (records_of o) number ≡ Some c → P c (take c.below (drop (number + 1) (records_of o)))) (sym g.is)
    (λ c e. subst (λ (c : Call). P c (take c.below (drop (number + 1) (calls_in g.result)))) (some_same (sym r.stands ∙ e)) (f input is g r))

-- and the other way round
pub at_call : {p : ProgramRows} {h : History} {number : ℕ} {row : table.Call} {input : List ℕ} (P : Call → List Call → Type 0) → OfCall p h number P
    → IsOfRun p input h.budget h → (g : RunOf p input h) (r : RowOf p h (calls_in g.result) number row) → P r.call (below g r)
at_call {number = number} {input = input} P f is g r =
    subst (λ (o : Outcome). P r.call (take r.call.below (drop (number + 1) (records_of o)))) g.is
    (f input is r.call (ap (λ (o : Outcome). slice_get (records_of o) number) g.is ∙ r.stands))

-- ---- what the test answers

same_truth : {X : Type 0} (a b : Bool) → ((a ≡ true) ↔ X) → ((b ≡ true) ↔ X) → a ≡ b
same_truth true true f g = refl
same_truth true false f g = absurd (let z : false ≡ true = g.1 (f.0 refl) in cc)
same_truth false true f g = absurd (let z : false ≡ true = f.1 (g.0 refl) in cc)
same_truth false false f g = refl

-- nothing was found where a state does not agree
pub nothing_found : {X : Type 0} → (X → ⊥) → (false ≡ true) ↔ X
nothing_found h = (λ e. absurd (let z : false ≡ true = e in cc), λ x. absurd (h x))

-- the row of a number below that of all calls
pub row_there : (rows : List table.Call) (k : ℕ) → k < length rows → (row : table.Call) × (slice_get rows k ≡ Some row)
row_there [] k l = absurd (omega (arith, l))
row_there (row ∷ rows) zero l = (row, refl)
row_there (row ∷ rows) (suc k) l = row_there rows k (omega (arith, l))

pub carries_so : {p : ProgramRows} {h : History} (call onto : ℕ) {row other : table.Call} → Kept p h → slice_get h.calls.calls call ≡ Some row
    → slice_get h.calls.calls onto ≡ Some other → (σ : State) (found : Bool) → OfCall p h onto (λ d below. σ ≡ d.entry)
    → OfCall p h call (λ d below. (found ≡ true) ↔ Agrees d below σ) → (input : List ℕ) → IsOfRun p input h.budget h
    → found ≡ carries (run p input h.budget) call onto
unfolding carries
carries_so {p = p} {h = h} call onto {row = row} {other = other} k at there σ found entry agrees_so input is =
    let g = run_of_history k is in
    let r = row_of_run g call row at in
    let o = row_of_run g onto other there in
    let met : σ ≡ o.call.entry = at_call (λ d below. σ ≡ d.entry) entry is g o in
    let told : (found ≡ true) ↔ Agrees r.call (below g r) o.call.entry = subst (λ (τ : State). (found ≡ true) ↔ Agrees r.call (below g r) τ) met
    (at_call (λ d below. (found ≡ true) ↔ Agrees d below σ) agrees_so is g r) in
    let cs = calls_in g.result in
    let test : carries (run p input h.budget) call onto ≡ agrees r.call (below g r) o.call.entry =
    ap (λ (x : Outcome). agrees_at (records_of x) call (slice_get (records_of x) call) (slice_get (records_of x) onto)) g.is
    ∙ ap (λ d. agrees_at cs call d (slice_get cs onto)) r.stands ∙ ap (agrees_at cs call (Some r.call)) o.stands in
    same_truth found (agrees r.call (below g r) o.call.entry) told (is_tested r.call (below g r) o.call.entry) ∙ sym test
