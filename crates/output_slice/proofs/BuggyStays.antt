-- After the calls were judged right that are left out, a wrong output still leads to a buggy call.
use Rattle.std.proofs.Common.{if◌then◌else◌, ◌+◌, ◌-◌, ◌<◌, ◌∙◌, ◌∷◌, ◌≡◌, ◌≢◌, [], ℕ, Bool, List, None, Option, Some, ap, arith, false, filter, inl, inr}
use Rattle.std.proofs.Common.{length, not, refl, slice_index, subst, sym, true}
use Rattle.std.proofs.lemmas.{Bool.cases_eq, List.length-map, Option.slice_get-map}
use Rattle.std.specs.{List.range_with_len, List.slice_get, Option.option_map}
use Rattle.core_program.specs.{Numbering.belows, Numbering.parent_of, Run.Call, Run.Result, State.State}
use Rattle.call_tree.specs.{Clear.is_clear, Clear.is_unjudged, Numbering.IsNumbered, declared.records.Call.Call as Row}
use Rattle.call_tree.specs.Recording.{lasts_of, parents_of, routines_of}
use Rattle.program_run.{proofs.RowsTellTheStates.each_at, specs.Table.table_of, specs.Table.table_row}
use Rattle.answer_book.{proofs.LastWhere.last_where_same, specs.Accused.accused_of, specs.Accused.is_wrong, specs.Marks.mark_of}
use Rattle.answer_book.specs.declared.entries.{Judgement.TheVariants.Right, Judgement.TheVariants.Wrong, What.TheVariants.Judged}
use Rattle.optimal_query.{proofs.OneMoreAnswer.new_mark, specs.Narrowing.IsLeft, specs.Search.Search, specs.Search.answers_in, specs.Search.search_with}
use Rattle.output_slice.proofs.{ActsAlike.false_true, AmongLists.Among, AmongLists.contains_among, AmongLists.get_at, KeptOfRuns.each_length}
use Rattle.output_slice.proofs.{SliceByOnePass.among_some, WrongOutputsLead.both, WrongOutputsLead.unjudged_not_wrong}
use Rattle.output_slice.proofs.LeftOutStays.{between, mark_beside, sliced_is, standing_more}
use Rattle.output_slice.specs.{Backward.some_at, WrongOutputs.IsBuggyAtOutput, WrongOutputs.IsTreeOf, WrongOutputs.Narrowing, declared.outputs.Output.Output}
use Rattle.output_slice.specs.LeftOut.{BuggyStays, columns_of, is_left_out, judged_right, left_out, left_out_below, parent_alone, sliced_call}

-- ---- which calls are marked wrong

module _ (routine : List ℕ) where
  abbrev pub wrong_at : Search → ℕ → Bool
  wrong_at s n = is_wrong (mark_of routine (answers_in s) n)

  pub marked_as_before : (s : Search) (xs : List ℕ) (n : ℕ) → ((k : ℕ) → Among k xs → n ≢ k)
      → mark_of routine (answers_in (judged_right s xs)) n ≡ mark_of routine (answers_in s) n
  marked_as_before s [] n ne = refl
  marked_as_before s (x ∷ xs) n ne = marked_as_before (search_with s (Judged x Right)) xs n (λ k a. ne k (inr a))
      ∙ mark_beside routine s x n Right (ne x (inl refl))

  -- once a call is judged right that is not marked wrong, the same calls are
  one_right : (s : Search) (x n : ℕ) → wrong_at s x ≡ false → wrong_at (search_with s (Judged x Right)) n ≡ wrong_at s n
  one_right s x n h = elim (cases_eq n x) [
    | inl e ↦ ap (wrong_at (search_with s (Judged x Right))) e
        ∙ ap is_wrong (ap (λ a. mark_of routine a x) (standing_more s.book.entries (Judged x Right)) ∙ new_mark routine (answers_in s) x Right)
        ∙ sym h ∙ ap (wrong_at s) (sym e)
    | inr ne ↦ ap is_wrong (mark_beside routine s x n Right ne)
  ]

  all_right : (s : Search) (xs : List ℕ) (n : ℕ) → ((k : ℕ) → Among k xs → wrong_at s k ≡ false) → wrong_at (judged_right s xs) n ≡ wrong_at s n
  all_right s [] n h = refl
  all_right s (x ∷ xs) n h =
      all_right (search_with s (Judged x Right)) xs n (λ k a. one_right s x k (h x (inl refl)) ∙ h k (inr a)) ∙ one_right s x n (h x (inl refl))

  pub accused_stays : (s : Search) (xs : List ℕ) → ((k : ℕ) → Among k xs → wrong_at s k ≡ false)
      → accused_of routine (answers_in (judged_right s xs)) ≡ accused_of routine (answers_in s)
  unfolding accused_of
  accused_stays s xs h = last_where_same (wrong_at (judged_right s xs)) (wrong_at s) (length routine) (λ n l. all_right s xs n h)

-- ---- the calls that are left out

passes : (p : ℕ → Bool) (xs : List ℕ) (k : ℕ) → Among k (filter p xs) → p k ≡ true
passes p [] k h = absurd h
passes p (x ∷ xs) k h = by (p x) refl (passes p xs k) h
  where
    by : (b : Bool) → p x ≡ b → (Among k (filter p xs) → p k ≡ true) → Among k (if b then x ∷ filter p xs else filter p xs) → p k ≡ true
    by true e go (inl q) = ap p (sym q) ∙ e
    by true e go (inr a) = go a
    by false e go a = go a

is_false : (b : Bool) → not b ≡ true → b ≡ false
is_false true e = absurd (false_true e)
is_false false e = refl

module _ (old : Search) (parents : List (Option ℕ)) (pairs : List (ℕ × Output)) (call below : ℕ) where
  abbrev mid : Search
  mid = search_with old (Judged call Wrong)

  abbrev calls : List ℕ
  calls = left_out old parents pairs call below

  parts : (k : ℕ) → Among k calls → (parent_alone pairs k (slice_get parents k) ≡ true) × (is_unjudged (mark_of old.book.routine (answers_in old) k) ≡ true)
  parts k a = both (parent_alone pairs k (slice_get parents k)) (is_unjudged (mark_of old.book.routine (answers_in old) k))
      (passes (is_left_out old parents pairs) (range_with_len (call + 1) below) k a)

  not_wrong : (routine : List ℕ) → old.book.routine ≡ routine → (k : ℕ) → Among k calls → wrong_at routine mid k ≡ false
  not_wrong routine same k a =
      let l = between (is_left_out old parents pairs) (call + 1) below k a in
      ap is_wrong (mark_beside routine old call k Wrong (λ q. absurd (omega (arith, q, l.0))))
      ∙ unjudged_not_wrong (mark_of routine (answers_in old) k) (ap (λ l. is_unjudged (mark_of l (answers_in old) k)) (sym same) ∙ (parts k a).1)

  no_pair : (k : ℕ) → Among k calls → some_at k pairs ≡ false
  no_pair k a = alone (slice_get parents k) (parts k a).0
    where
      alone : (o : Option (Option ℕ)) → parent_alone pairs k o ≡ true → some_at k pairs ≡ false
      alone (Some (Some parent)) e = is_false (some_at k pairs) (both (some_at parent pairs) (not (some_at k pairs)) e).1
      alone (Some None) e = absurd (false_true e)
      alone None e = absurd (false_true e)

  -- a call that has a pair is none of them
  apart : (n : ℕ) (x : Output) → Among (n, x) pairs → (k : ℕ) → Among k calls → n ≢ k
  apart n x p k a q = false_true (sym (no_pair k a) ∙ ap (λ n. some_at n pairs) (sym q) ∙ among_some n pairs x p)

-- ---- the columns are those of the run

module _ (rows : List Row) (numbered : IsNumbered (parents_of rows) (lasts_of rows)) (r : Result State Call) (t : rows ≡ table_of r.events) where
  parent_is : (k : ℕ) → k < length r.events → slice_get (parents_of rows) k ≡ Some (parent_of (belows r.events) k)
  parent_is k l =
      let bs = belows r.events in
      let many : length rows ≡ length r.events = ap length t ∙ each_length (table_row bs) 0 r.events in
      let row = get_at rows k (omega (arith, l, many)) in
      let x = each_at (table_row bs) 0 k r.events row.0 (ap (λ l. slice_get l k) (sym t) ∙ row.1) in
      slice_get-map (λ (row : Row). row.parent) rows k ∙ ap (option_map (λ (row : Row). row.parent)) row.1
      ∙ ap (λ (row : Row). Some row.parent) (sym x.is) ∙ ap (λ n. Some (parent_of bs n)) (let z : 0 + k ≡ k = omega arith in z)

  tree_is : IsTreeOf r (columns_of rows)
  tree_is = record {
    tree = record {
      numbered = numbered;
      of_routines = length-map rows (λ row. row.routine) ∙ sym (length-map rows (λ row. row.last));
    };
    parents = parent_is;
  }

pub buggy_stays : Narrowing → (rows : List Row) (pairs : List (ℕ × Output)) (old new : Search) → IsNumbered (parents_of rows) (lasts_of rows)
    → old.book.routine ≡ routines_of rows
    → new ≡ judged_right (search_with old (Judged (sliced_call pairs) Wrong)) (left_out_below old rows pairs (sliced_call pairs))
    → BuggyStays rows pairs old new
buggy_stays law rows pairs old new numbered same is p input budget r q t call o l went_wrong h =
    let routine = routines_of rows in
    let parents = parents_of rows in
    let below = slice_index (lasts_of rows) call - call in
    let judged_first = standing_more old.book.entries (Judged call Wrong) in
    let new_is : new ≡ judged_right (mid old parents pairs call below) (calls old parents pairs call below) =
    is ∙ ap (λ n. judged_right (search_with old (Judged n Wrong)) (left_out_below old rows pairs n)) (sliced_is pairs (call, o) l.first) in
    subst (λ s. (found : ℕ) × IsLeft (columns_of rows) (answers_in s) found × IsBuggyAtOutput r went_wrong found) (sym new_is)
    (law p input budget r q (columns_of rows) (tree_is rows numbered r t)
    (answers_in (judged_right (mid old parents pairs call below) (calls old parents pairs call below)))
    went_wrong call o (record {
      accused = accused_stays routine (mid old parents pairs call below) (calls old parents pairs call below)
          (not_wrong old parents pairs call below routine same)
          ∙ ap (accused_of routine) judged_first ∙ h.accused;
      entry = h.entry;
      a_call = h.a_call;
      has = h.has;
      wrong = h.wrong;
      clear = λ other from s e.
          let there = l.whole other from s in
          h.clear other from s (ap is_clear (
          sym (marked_as_before routine (mid old parents pairs call below) (calls old parents pairs call below) other
          (apart old parents pairs call below other from (contains_among pairs (other, from) there.0 there.1 there.2))
          ∙ ap (λ a. mark_of routine a other) judged_first)) ∙ e);
    }))
