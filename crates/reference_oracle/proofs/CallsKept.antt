-- The table of a run keeps of its calls what a verdict asks for, and that of an answer what it is compared by.
use Rattle.std.proofs.Common.{◌++◌, ◌+◌, ◌-◌, ◌<◌, ◌∙◌, ◌∷◌, ◌≡◌, [], ℕ, IsSome, List, None, Option, Some, ap, arith, drop, length, map, refl, slice_get}
use Rattle.std.proofs.{Common.slice_range, Common.subst, Common.sym, Common.take, Math.Seq.drop-append_seam, lemmas.List.take_at}
use Rattle.cell_value.specs.{Effects.given_of, Effects.head_of, Effects.taken_of, declared.entries.Touch.Touch, declared.values.Value.Value}
use Rattle.core_program.proofs.{OutcomesCompose.none_some, OutcomesCompose.some_same, RunsLeave.call_leaves}
use Rattle.core_program.specs.{ProgramRows.ProgramRows, Run.Call, Run.Marked, Run.Outcome, Run.recorded, RunLaws.calls_in, State.State, WholeTables.WholeTables}
use Rattle.core_program.specs.Numbering.{StandsAt, belows, calls_of}
use Rattle.call_tree.specs.Told.{part_of}
use Rattle.call_tree.specs.declared.records.Call as table
use Rattle.program_run.specs.{History.output_of, Table.table_of, Table.table_row, declared.history.History.History}
use Rattle.body_replay.proofs.RecordsOfRuns.{Kept, RowOf, RunOf, row_of_run, run_of_history}
use Rattle.body_replay.specs.{Carried.OfCall, Replays.records_of}
use Rattle.reference_oracle.proofs.{RowsSay.says_so, VerdictsTested.has_answer}
use Rattle.reference_oracle.specs.{Compared.IsComparisonOf, Compared.SaysByRows, Compared.compared, Fitting.Asked, Kept.IsAnswerOf, Kept.IsFit, Kept.IsKeptCall}
use Rattle.reference_oracle.specs.{Verdicts.Says, declared.asked.Fit.Fit, declared.verdicts.Verdict.Verdict}
use Rattle.reference_oracle.specs.Answers.{answer_of, bytes_given, items_taken, reference_answer, reference_args, reference_entry}

-- ---- a call of the run

part_is : (log : List Touch) (mark : ℕ) (w : List Touch) → StandsAt log mark w → slice_range log mark (mark + length w) ≡ w
part_is log mark w s =
    ap (λ n. take n (drop mark log)) (let z : mark + length w - mark ≡ length w = omega arith in z)
    ∙ ap (λ l. take (length w) (drop mark l)) s.is
    ∙ ap (λ n. take (length w) (drop n (s.before ++ (w ++ s.later)))) (sym s.at)
    ∙ ap (take (length w)) (drop-append_seam s.before (w ++ s.later))
    ∙ take_at w s.later (length w) refl

pub kept_row : {p : ProgramRows} {input : List ℕ} {h : History} (g : RunOf p input h) {number : ℕ} {row : table.Call}
    (r : RowOf p h (calls_in g.result) number row) → IsKeptCall h row r.call
kept_row {p = p} {h = h} g {row = row} r =
    let q = r.recorded.is in
    let l = (call_leaves p r.made.ran r.made.sound r.made.limits).leaves in
    let log = ap (λ (c : Call). c.log) r.made.record' in
    let place : r.call.exit.place ≡ r.call.entry.place + taken_of r.call.log =
    ap (λ (c : Call). c.exit.place) (sym r.made.record') ∙ l.place ∙ ap (λ w. r.call.entry.place + taken_of w) log in
    let output : r.call.exit.output ≡ r.call.entry.output ++ given_of r.call.log =
    ap (λ (c : Call). c.exit.output) (sym r.made.record') ∙ l.output ∙ ap (λ w. r.call.entry.output ++ given_of w) log in
    record {
      routine = ap (λ (x : table.Call). x.routine) q;
      args = ap (λ (x : table.Call). x.args) q;
      way = ap (λ (x : table.Call). x.way) q;
      result = ap (λ (x : table.Call). x.result) q;
      base = ap (λ (x : table.Call). x.entry.top) q ∙ sym r.recorded.base;
      cells = ap (λ (x : table.Call). x.entry.store) q;
      items = sym r.items;
      place = ap (λ (x : table.Call). x.entry.place) q;
      left = ap (λ (x : table.Call). x.exit.store) q;
      log = ap (part_of h.log) q ∙ part_is h.log r.recorded.mark r.call.log r.recorded.stands;
      taken = omega (arith, place);
      given = sym (ap (drop (length r.call.entry.output)) output ∙ drop-append_seam r.call.entry.output (given_of r.call.log));
    }

kept_call : {p : ProgramRows} {h : History} (number : ℕ) {row : table.Call} → Kept p h → slice_get h.calls.calls number ≡ Some row
    → OfCall p h number (λ c below. IsKeptCall h row c)
kept_call {p = p} {h = h} number {row = row} k at input is =
    let g = run_of_history k is in
    let r = row_of_run g number row at in
    subst (λ (o : Outcome). (c : Call) → slice_get (records_of o) number ≡ Some c → IsKeptCall h row c) (sym g.is)
    (λ c e. subst (IsKeptCall h row) (some_same (sym r.stands ∙ e)) (kept_row g r))

-- what follows of each call of a run from what is kept of it
pub of_kept : {p : ProgramRows} {h : History} (number : ℕ) {row : table.Call} (P : Call → List Call → Type 0) → Kept p h
    → slice_get h.calls.calls number ≡ Some row → ((c : Call) (below : List Call) → IsKeptCall h row c → P c below) → OfCall p h number P
of_kept number P k at f input is c e = f c _ (kept_call number k at input is c e)

-- ---- the answer

-- there is a first row, if there is an answer
first_of : (ms : List (Marked Call)) (d : Call) → head_of (map (λ m. m.event) ms) ≡ Some d → (first : table.Call) × (slice_get (table_of ms) 0 ≡ Some first)
first_of [] d e = absurd (none_some e)
first_of (m ∷ ms) d e = (table_row (belows (m ∷ ms)) 0 m, refl)

record IsRowOfAnswer (first : table.Call) (output : List ℕ) (d : Call) : Type 0 where
  way : first.way ≡ d.way
  result : first.result ≡ d.result
  cells : first.exit.store ≡ d.exit.cells
  taken : first.exit.place ≡ items_taken d
  given : output ≡ bytes_given d

row_of_answer : (f : ℕ) (args : List Value) (σ : State) (x : Outcome) (first : table.Call) (d : Call) → σ.place ≡ 0 → σ.output ≡ []
    → head_of (map (λ m. m.event) (calls_of (recorded f args σ x))) ≡ Some d → slice_get (table_of (calls_of (recorded f args σ x))) 0 ≡ Some first
    → IsRowOfAnswer first (output_of (recorded f args σ x)) d
row_of_answer f args σ None first d place output e at = absurd (none_some e)
row_of_answer f args σ (Some r) first d place output e at =
    let q = sym (some_same at) in
    let s = some_same e in
    let taken : r.after.place ≡ r.after.place - σ.place = omega (arith, place) in
    record {
      way = ap (λ (x : table.Call). x.way) q ∙ ap (λ (c : Call). c.way) s;
      result = ap (λ (x : table.Call). x.result) q ∙ ap (λ (c : Call). c.result) s;
      cells = ap (λ (x : table.Call). x.exit.store) q ∙ ap (λ (c : Call). c.exit.cells) s;
      taken = ap (λ (x : table.Call). x.exit.place) q ∙ taken ∙ ap items_taken s;
      given = ap (λ l. drop (length l) r.after.output) (sym output) ∙ ap bytes_given s;
    }

there : {X : Type 0} (o : Option X) → IsSome o → (x : X) × (o ≡ Some x)
there None h = absurd (let z : ⊥ = cc in z)
there (Some x) h = (x, refl)

-- what is said by rows is said of the call
module _ (a : Asked) (W : WholeTables a.programs.reference) (run : History) (row : table.Call) (fit : Fit) (answer : History)
    (k : IsKeptCall run row a.call) (f : IsFit a run row fit) (h : IsAnswerOf a fit.routine answer)
  where
    rows : answer.calls.calls ≡ table_of (calls_of (reference_answer a fit.routine))
    rows = ap (λ c. c.calls) h.calls

    answered : (d : Call) × (answer_of a fit.routine ≡ Some d)
    answered = there (answer_of a fit.routine) (has_answer a W fit.routine f.fits)

    first : (first : table.Call) × (slice_get (table_of (calls_of (reference_answer a fit.routine))) 0 ≡ Some first)
    first = first_of (calls_of (reference_answer a fit.routine)) answered.0 answered.1

    pub has_row : 0 < length answer.calls.calls
    has_row = within answer.calls.calls (ap (λ rs. slice_get rs 0) rows ∙ first.1)
      where
        within : (rs : List table.Call) → slice_get rs 0 ≡ Some first.0 → 0 < length rs
        within [] e = absurd (none_some e)
        within (r ∷ rs) e = omega arith

    pub says_by_rows : (v : Verdict) → ((first : table.Call) → slice_get answer.calls.calls 0 ≡ Some first
        → SaysByRows (compared row fit.found first answer.output fit.places.items) v) → Says a v
    says_by_rows v by =
        let d = answered.0 in
        let x = first.0 in
        let at = first.1 in
        let y = row_of_answer fit.routine (reference_args a) (reference_entry a) _ x d refl refl answered.1 at in
        let kept : IsComparisonOf a d (compared row fit.found x answer.output fit.places.items) = record {
          way = k.way;
          result = k.result;
          cells = k.left;
          taken = f.found.taken ∙ ap taken_of k.log ∙ k.taken;
          given = f.found.given ∙ ap given_of k.log ∙ k.given;
          other_way = y.way;
          other_result = y.result;
          other_cells = y.cells;
          other_taken = y.taken;
          other_given = h.output ∙ y.given;
          places = f.places;
        } in
        says_so kept (record { routine = fit.routine; fits = f.fits; answer = answered.1 }) v (by x (ap (λ rs. slice_get rs 0) rows ∙ at))
