-- What is kept of a run tells each of its calls: the row of a call says where its record stands in the log, and how it ended.
use Rattle.std.proofs.Common.{◌+◌, ◌<◌, ◌∙◌, ◌∷◌, ◌≡◌, ◌≤◌, [], ℕ, List, Some, ap, arith, drop, length, length-drop, refl, slice_range, subst, suc, sym, take}
use Rattle.std.{proofs.lemmas.Option.slice_get_within, specs.List.slice_get}
use Rattle.cell_value.specs.Effects.{changes_of, given_of, looked_of, made_of, reads_of, taken_of}
use Rattle.core_program.proofs.{CallsCounted.calls_counted, CallsOfRunsNest.forest_of, NestedCallsAreIntervals.Forest, OutcomesCompose.some_same}
use Rattle.core_program.specs.{Numbering.belows, Numbering.each_from, ProgramRows.ProgramRows, Run.Call, Run.Marked, Run.Result, Run.input_items}
use Rattle.core_program.specs.{RunLaws.IsCounted, RunLaws.most_bytes, State.State, WholeTables.WholeTables}
use Rattle.effect_log.specs.declared.by_maps.Footprint.{Footprint}
use Rattle.call_tree.specs.{Recording.Recording, Told.IsTold, Told.part_of, declared.records.Call.Call as Row}
use Rattle.program_run.proofs.{CallsTold.calls_told, RowsTellTheStates.each_at}
use Rattle.program_run.specs.{History.IsOfRun, History.log_of, History.recording_of, Table.table_of, Table.table_row, declared.history.History.History}
use Rattle.body_replay.proofs.RecordsOfRuns.{kept, run_of_history}
use Rattle.output_slice.proofs.{AmongLists.all_at, AmongLists.get_at, ChildrenOfPieces.last_is, MarksInOrder.children_in_order}
use Rattle.output_slice.proofs.MarksOfRuns.{MadeAt, made_at}
use Rattle.output_slice.specs.{Children.Ordered, KeptRuns.IsKept, KeptRuns.IsKeptRun, Needed.EndsAs, Needed.IsEffectOfCall}

-- ---- the rows

-- the row of a call of this number
pub record IsRowOf (number : ℕ) (e : Marked Call) (row : Row) : Type 0 where
  pub last : row.last ≡ number + e.event.below
  pub begins : row.entry.mark ≡ e.mark
  pub ends : row.exit.mark ≡ e.mark + length e.event.log
  pub top : row.entry.top ≡ e.event.base
  pub place : row.entry.place ≡ e.event.entry.place
  pub ended : EndsAs e.event row

pub record CallAt (r : Result State Call) (number : ℕ) (row : Row) : Type 0 where
  pub entry : Marked Call
  pub a_call : slice_get r.events number ≡ Some entry
  pub row_of : IsRowOf number entry row

pub each_length : {A B : Type 0} (f : ℕ → A → B) (n : ℕ) (xs : List A) → length (each_from f n xs) ≡ length xs
each_length f n [] = refl
each_length f n (x ∷ xs) = ap suc (each_length f (suc n) xs)

-- ---- the run

-- what is kept of a run of whole tables is kept of one
pub kept_of : {p : ProgramRows} {input : List ℕ} {h : History} → WholeTables p → length input ≤ most_bytes → IsOfRun p input h.budget h
    → h.budget ≤ 4000000 → IsKept h
kept_of {p = p} {input = input} W few g budget =
    let x = run_of_history (kept W few g budget) g in
    (x.result, record { program = p; input = input; few = few; run_is = x.is; kept = g })

module _ {h : History} {r : Result State Call} (k : IsKeptRun h r) where
  pub calls_are : h.calls.calls ≡ table_of r.events
  calls_are = ap (λ (c : Recording). c.calls) k.kept.calls ∙ ap (λ x. (recording_of k.program x).calls) k.run_is

  pub log_is : h.log ≡ r.log
  log_is = k.kept.log ∙ ap log_of k.run_is

  pub made_so : (number : ℕ) (e : Marked Call) → slice_get r.events number ≡ Some e → MadeAt k.program e (drop (number + 1) r.events)
  made_so number e q = made_at k.program k.input h.budget r k.run_is number e q

  pub forest_at : Forest (belows r.events)
  forest_at = forest_of k.program k.input h.budget r k.run_is

  pub told_at : (number : ℕ) (row : Row) → slice_get h.calls.calls number ≡ Some row → IsTold h.log h.input row
  told_at = calls_told k.program k.input h.budget h k.few k.kept

  pub counted_at : (number : ℕ) (e : Marked Call) → slice_get r.events number ≡ Some e → IsCounted (input_items k.input) r.log e
  counted_at number e q = all_at (IsCounted (input_items k.input) r.log) r.events number e (calls_counted k.program k.input h.budget r k.few k.run_is) q

  -- a call's own frame begins where the stack ends before the call
  pub base_is : (number : ℕ) (e : Marked Call) → slice_get r.events number ≡ Some e → e.event.base ≡ e.event.entry.top
  base_is number e q = sym (ap (λ (c : Call). c.base) (made_so number e q).record')

  -- the calls that it made stand one after another in its part of the log
  pub in_order : (number : ℕ) (e : Marked Call) → slice_get r.events number ≡ Some e
      → Ordered e.mark 0 (e.mark + length e.event.log) (take e.event.below (drop (number + 1) r.events))
  in_order number e q = children_in_order k.program e (drop (number + 1) r.events) (made_so number e q)

  -- the calls below it are calls of the run
  pub inside : (number : ℕ) (e : Marked Call) → slice_get r.events number ≡ Some e → number + e.event.below < length r.events
  inside number e q =
      let made = made_so number e q in
      omega (arith, made.room, slice_get_within r.events number e q, length-drop (number + 1) r.events)

  pub call_at : (number : ℕ) (row : Row) → slice_get h.calls.calls number ≡ Some row → CallAt r number row
  call_at number row s =
      let ms = r.events in
      let x = each_at (table_row (belows ms)) 0 number ms row (ap (λ rows. slice_get rows number) (sym calls_are) ∙ s) in
      let e = x.element in
      let is : row ≡ table_row (belows ms) number e =
      sym x.is ∙ ap (λ n. table_row (belows ms) n e) (let z : 0 + number ≡ number = omega arith in z) in
      record {
        entry = e;
        a_call = x.stands;
        row_of = record {
          last = ap (λ (row : Row). row.last) is ∙ last_is ms number e x.stands;
          begins = ap (λ (row : Row). row.entry.mark) is;
          ends = ap (λ (row : Row). row.exit.mark) is;
          top = ap (λ (row : Row). row.entry.top) is ∙ sym (base_is number e x.stands);
          place = ap (λ (row : Row). row.entry.place) is;
          ended = record { way = ap (λ (row : Row). row.way) is; result = ap (λ (row : Row). row.result) is };
        };
      }

  pub row_is : (number : ℕ) (e : Marked Call) (row : Row) → slice_get r.events number ≡ Some e → slice_get h.calls.calls number ≡ Some row
      → IsRowOf number e row
  row_is number e row q s = let x = call_at number row s in subst (λ e. IsRowOf number e row) (some_same (sym x.a_call ∙ q)) x.row_of

  -- there are as many rows as calls
  pub as_many : length h.calls.calls ≡ length r.events
  as_many = ap length calls_are ∙ each_length (table_row (belows r.events)) 0 r.events

  -- each number of a row is that of a call
  pub entry_at : (number : ℕ) → number < length h.calls.calls → (e : Marked Call) × (slice_get r.events number ≡ Some e)
  entry_at number l = get_at r.events number (omega (arith, l, as_many))

  -- ---- the effect

  pub part_is : (number : ℕ) (e : Marked Call) (row : Row) → slice_get r.events number ≡ Some e → slice_get h.calls.calls number ≡ Some row
      → part_of h.log row ≡ e.event.log
  part_is number e row q s =
      let i = row_is number e row q s in
      ap (λ l. slice_range l row.entry.mark row.exit.mark) log_is ∙ ap (λ m. slice_range r.log m row.exit.mark) i.begins
      ∙ ap (λ m. slice_range r.log e.mark m) i.ends ∙ (counted_at number e q).part

  pub effect_is : (number : ℕ) (row : Row) (f : Footprint) → slice_get h.calls.calls number ≡ Some row
      → f.reads ≡ reads_of row.entry.top (part_of h.log row) → f.changes ≡ changes_of row.entry.top (part_of h.log row)
      → f.made ≡ made_of (part_of h.log row) → f.looked ≡ looked_of row.entry.place (part_of h.log row)
      → f.taken ≡ taken_of (part_of h.log row) → f.given ≡ given_of (part_of h.log row)
      → (e : Marked Call) → slice_get r.events number ≡ Some e → IsEffectOfCall e.event f
  effect_is number row f s reads changes made looked taken given e q =
      let i = row_is number e row q s in
      let part = part_is number e row q s in
      record {
        reads = reads ∙ ap (reads_of row.entry.top) part ∙ ap (λ b. reads_of b e.event.log) i.top;
        changes = changes ∙ ap (changes_of row.entry.top) part ∙ ap (λ b. changes_of b e.event.log) i.top;
        made = made ∙ ap made_of part;
        looked = looked ∙ ap (looked_of row.entry.place) part ∙ ap (λ n. looked_of n e.event.log) i.place;
        taken = taken ∙ ap taken_of part;
        given = given ∙ ap given_of part;
      }
