-- Slices of the outputs of calls, and what is left out by them, as a dialog sees it.
use Rattle.std.proofs.Common.{if◌then◌else◌, ◌&&◌, ◌+◌, ◌-◌, ◌<◌, ◌∙◌, ◌∷◌, ◌≡◌, ◌≤◌, [], ℕ, Bool, Err, List, None, Ok, Option, Result, Some, ap, arith, false}
use Rattle.std.proofs.Common.{filter, length, map, nat_le, refl, slice_get, slice_index, subst, sym, true}
use Rattle.std.{proofs.lemmas.Bool.Decides.nat_tests, proofs.lemmas.List.length-map, specs.List.range_with_len}
use Rattle.core_program.{proofs.OutcomesCompose.none_some, proofs.OutcomesCompose.some_same, specs.ProgramRows.ProgramRows, specs.Run.Call, specs.Run.Marked}
use Rattle.core_program.{specs.Run.Result as RunResult, specs.Run.run, specs.RunLaws.most_bytes, specs.State.State, specs.WholeTables.WholeTables}
use Rattle.call_tree.specs.{Clear.is_unjudged, Recording.lasts_of, Recording.parents_of}
use Rattle.program_run.specs.{History.IsOfRun, declared.history.History.History}
use Rattle.body_replay.proofs.RecordsOfRuns.{kept, run_of_history}
use Rattle.answer_book.specs.{Entries.entries_with, Marks.mark_of, declared.entries.Judgement.TheVariants.Right, declared.entries.Judgement.TheVariants.Wrong}
use Rattle.answer_book.specs.declared.entries.{BookFault.BookFault, What.What, What.TheVariants.Judged}
use Rattle.answer_book.specs.declared.entries.BookFault.TheVariants as fault
use Rattle.optimal_query.specs.Search.{Search, answers_in, search_with}
use Rattle.output_slice.proofs.{AmongLists.among_contains, AmongLists.contains_among, KeptOfRuns.entry_at}
use Rattle.output_slice.proofs.SliceByOnePass.{among_some, slice_list_is, some_among}
use Rattle.output_slice.specs.{Backward.slice_list, Backward.some_at, KeptRuns.IsKeptRun, Outputs.InSlice, Outputs.has_output, SliceLists.IsSliceList}
use Rattle.output_slice.specs.{SlicePairs.Sliced, Slices.most_touches, Touches.touches_below, declared.outputs.Output.Output}
use Rattle.output_slice.specs.LeftOut.{AnswersLeftOut, is_left_out, judged_right, left_out_below, parent_alone, sliced_call}
use Rattle.dialog_replies.specs.{Kept.IsSearchOf, Subject.Subject, declared.slices.SliceOf.SliceOf}
use Rattle.dialog_replies.specs.Slices.{all_answer, entries_after_all, entries_with_all, has_no_part, only_parent_in, slice_answers, without_part}
use Rattle.dialog_replies.specs.declared.slices.SliceOf.TheVariants as slices
use Rattle.debuggee.specs.{Execution.Execution, Subjects.subject_of}
use Rattle.debuggee.specs.Slicing.{IsSliceFor, output_named, slice_at, slice_by, slice_if, slice_in, slice_named}

-- ---- of which calls the pairs of a slice are

alike : (b c : Bool) → (b ≡ true → c ≡ true) → (c ≡ true → b ≡ true) → b ≡ c
alike true c f g = sym (f refl)
alike false true f g = g refl
alike false false f g = refl

module _ {r : RunResult State Call} {k : ℕ} {o : Output} where
  -- a call has a pair in a list of the slice exactly if one of its outputs is in the slice
  pub has_pair : (xs : List (ℕ × Output)) → IsSliceList r k o xs → (n : ℕ) → some_at n xs ≡ true → (from : Output) × InSlice r k o n from
  has_pair xs is n e = let p = some_among n xs e in (p.0, is.no_more n p.0 (among_contains xs (n, p.0) p.1))

  pub pair_has : (xs : List (ℕ × Output)) → IsSliceList r k o xs → (n : ℕ) (from : Output) → InSlice r k o n from → some_at n xs ≡ true
  pair_has xs is n from h = let c = is.whole n from h in among_some n xs from (contains_among xs (n, from) c.0 c.1 c.2)

  of_each : (xs ys : List (ℕ × Output)) → IsSliceList r k o xs → IsSliceList r k o ys → (n : ℕ) → some_at n xs ≡ true → some_at n ys ≡ true
  of_each xs ys is also n e = let p = has_pair xs is n e in pair_has ys also n p.0 p.1

  -- two lists of one slice are of the same calls
  pub same_calls : (xs ys : List (ℕ × Output)) → IsSliceList r k o xs → IsSliceList r k o ys
      → ◌≡◌ {A = ℕ → Bool} (λ n. some_at n xs) (λ n. some_at n ys)
  same_calls xs ys is also i n = alike (some_at n xs) (some_at n ys) (of_each xs ys is also n) (of_each ys xs also is n) i

-- ---- a call of a run that is kept

pub record CallOf (p : ProgramRows) (input : List ℕ) (h : History) (k : ℕ) : Type 0 where
  pub result : RunResult State Call
  pub run_is : run p input h.budget ≡ Some result
  pub entry : Marked Call
  pub of_call : slice_get result.events k ≡ Some entry

pub call_of : {p : ProgramRows} {input : List ℕ} {h : History} {k : ℕ} → WholeTables p → length input ≤ most_bytes → IsOfRun p input h.budget h
    → h.budget ≤ 4000000 → k < length h.calls.calls → CallOf p input h k
call_of {p = p} {input = input} {h = h} {k = k} W few g budget l =
    let x = run_of_history (kept W few g budget) g in
    let of_run : IsKeptRun h x.result = record { program = p; input = input; few = few; run_is = x.is; kept = g } in
    let e = entry_at of_run k l in
    record { result = x.result; run_is = x.is; entry = e.0; of_call = e.1 }

-- ---- what there is of a slice

module _ (h : Execution) (r : RunResult State Call) (is : run h.recorded.program h.supply.input h.supply.budget ≡ Some r) (k : ℕ)
    (e : Marked Call) (at : slice_get r.events k ≡ Some e) (o : Output) where
  abbrev told : SliceOf (ℕ → Bool)
  told = slice_in h.recorded.calls (run h.recorded.program h.supply.input h.supply.budget) k o

  abbrev touches : ℕ
  touches = touches_below h.recorded.calls k e.event.below

  abbrev if_few : Bool → SliceOf (ℕ → Bool)
  if_few few = if few then slices.Slice (λ other. some_at other (slice_list r k o)) else slices.TooMany

  by_run : told ≡ slice_at h.recorded.calls r k e o
  by_run = ap (λ x. slice_in h.recorded.calls x k o) is ∙ ap (λ x. slice_by h.recorded.calls r k x o) at

  by_output : (has : Bool) → has_output e.event o ≡ has → told ≡ (if has then if_few (nat_le touches most_touches) else slices.NoOutput)
  by_output has f = by_run ∙ ap (λ (b : Bool). if b then if_few (nat_le touches most_touches) else slices.NoOutput) f

  pub told_none : has_output e.event o ≡ false → told ≡ slices.NoOutput
  told_none f = by_output false f

  pub told_too_many : has_output e.event o ≡ true → most_touches < touches → told ≡ slices.TooMany
  told_too_many f l =
      let many : nat_le touches most_touches ≡ false = grind (arith, nat_tests, l) in
      by_output true f ∙ ap if_few many

  pub told_slice : has_output e.event o ≡ true → touches ≤ most_touches → (pairs : List (ℕ × Output)) → IsSliceList r k o pairs
      → told ≡ slices.Slice (λ other. some_at other pairs)
  told_slice f l pairs list =
      let few : nat_le touches most_touches ≡ true = grind (arith, nat_tests, l) in
      by_output true f ∙ ap if_few few
      ∙ ap (λ (has : ℕ → Bool). slices.Slice has) (same_calls (slice_list r k o) pairs (slice_list_is r k o) list)

-- what there is by a name is what there is of the output that it names, and nothing where it names none
module _ (h : Execution) (k : ℕ) (name : List ℕ) where
  abbrev told_of : Option Output → SliceOf (ℕ → Bool)
  told_of named = slice_if h.recorded.calls (run h.recorded.program h.supply.input h.supply.budget) k named

  pub told_named : (named : Option Output) → named ≡ output_named h.recorded k name → told_of named ≡ slice_named h k name
  unfolding slice_named
  told_named named e = ap told_of e

-- what was prepared is a slice of this call
first_of : (pairs : List (ℕ × Output)) (y : ℕ × Output) → slice_get pairs 0 ≡ Some y → (0 < length pairs) × (sliced_call pairs ≡ y.0)
first_of [] y e = absurd (none_some e)
first_of (x ∷ xs) y e = (omega arith, ap (λ (z : ℕ × Output). z.0) (some_same e))

pub slice_for : (h : Execution) (r : RunResult State Call) (k : ℕ) (o : Output) (slice : Sliced) → IsSliceList r k o slice.pairs
    → slice.calls ≡ length h.recorded.calls → IsSliceFor h k slice
slice_for h r k o slice list calls =
    let f = first_of slice.pairs (k, o) list.first in
    record { some = f.0; first = f.1; of_run = calls }

-- ---- which calls are left out

module _ (h : Execution) (old : Search) (search : IsSearchOf (subject_of h) old) (pairs : List (ℕ × Output)) where
  only_alike : (call : ℕ) (parent : Option (Option ℕ)) → parent_alone pairs call parent ≡ only_parent_in (λ n. some_at n pairs) call parent
  only_alike call (Some (Some parent)) = refl
  only_alike call (Some None) = refl
  only_alike call None = refl

  no_part : (call : ℕ) → is_left_out old (parents_of h.recorded.calls) pairs call
      ≡ has_no_part (subject_of h) (answers_in old) (λ n. some_at n pairs) call
  no_part call =
      ap (λ (b : Bool). b && is_unjudged (mark_of old.book.routine (answers_in old) call))
      (only_alike call (slice_get (parents_of h.recorded.calls) call))
      ∙ ap (λ routine. only_parent_in (λ n. some_at n pairs) call (slice_get (parents_of h.recorded.calls) call)
      && is_unjudged (mark_of routine (answers_in old) call)) search.routine

  pub left_alike : (call : ℕ) → left_out_below old h.recorded.calls pairs call
      ≡ without_part (subject_of h) (answers_in old) (λ n. some_at n pairs) call
  left_alike call =
      ap (λ (test : ℕ → Bool). filter test (range_with_len (call + 1) (slice_index (lasts_of h.recorded.calls) call - call)))
      (λ i call. no_part call i)

-- ---- the search after they were judged

module _ (s : Subject) where
  one_more : (search : Search) (what : What) → IsSearchOf s search → IsSearchOf s (search_with search what)
  one_more search what is = record { last = is.last; routine = is.routine; routines = is.routines; of_routines = is.of_routines; some = is.some }

  pub all_more : (search : Search) (calls : List ℕ) → IsSearchOf s search → IsSearchOf s (judged_right search calls)
  all_more search [] is = is
  all_more search (call ∷ calls) is = all_more (search_with search (Judged call Right)) calls (one_more search (Judged call Right) is)

pub entries_after : (search : Search) (calls : List ℕ)
    → (judged_right search calls).book.entries ≡ entries_with_all search.book.entries (map (λ other. Judged other Right) calls)
entries_after search [] = refl
entries_after search (call ∷ calls) = entries_after (search_with search (Judged call Right)) calls

-- what is answered where they are left out, as the dialog sees it
module _ (h : Execution) (old new : Search) (search : IsSearchOf (subject_of h) old) (pairs : List (ℕ × Output)) (call : ℕ) where
  abbrev whats : List What
  whats = slice_answers (subject_of h) (answers_in old) (λ n. some_at n pairs) call

  many : length whats ≡ 1 + length (left_out_below old h.recorded.calls pairs call)
  many =
      let each = length-map (without_part (subject_of h) (answers_in old) (λ n. some_at n pairs) call) (λ (other : ℕ). Judged other Right) in
      let same = ap (λ (l : List ℕ). length l) (left_alike h old search pairs call) in
      omega (arith, each, same)

  abbrev if_room : Bool → Result (ℕ × ℕ) BookFault
  if_room b = if b then Ok (length old.book.entries + 1, length old.book.entries + length whats) else Err fault.Full

  pub answers : (result : Result (ℕ × ℕ) BookFault)
      → AnswersLeftOut old call (left_out_below old h.recorded.calls pairs call) new result → result ≡ all_answer old.book.entries whats
  answers (Ok numbers) a =
      let n = many in let l = a.2 in
      let last : length old.book.entries + 1 + length (left_out_below old h.recorded.calls pairs call) ≡ length old.book.entries + length whats =
      omega (arith, n) in
      let few : length old.book.entries + length whats ≤ 100000 = omega (arith, n, l) in
      let room : nat_le (length old.book.entries + length whats) 100000 ≡ true = grind (arith, nat_tests, few) in
      ap (λ (x : ℕ × ℕ). Ok x) (a.1 ∙ ap (λ (last : ℕ). (length old.book.entries + 1, last)) last) ∙ sym (ap if_room room)
  answers (Err fault.Full) a =
      let n = many in let l = a.0 in
      let more : 100000 < length old.book.entries + length whats = omega (arith, n, l) in
      let room : nat_le (length old.book.entries + length whats) 100000 ≡ false = grind (arith, nat_tests, more) in
      sym (ap if_room room)
  answers (Err (fault.NoCall number)) a = absurd a
  answers (Err (fault.NoRoutine number)) a = absurd a
  answers (Err (fault.NotStanding number)) a = absurd a
  answers (Err fault.NothingStanding) a = absurd a

  pub entries_are : (result : Result (ℕ × ℕ) BookFault)
      → AnswersLeftOut old call (left_out_below old h.recorded.calls pairs call) new result
      → new.book.entries ≡ entries_after_all old.book.entries whats result
  entries_are (Ok numbers) a =
      ap (λ (search : Search). search.book.entries) a.0
      ∙ entries_after (search_with old (Judged call Wrong)) (left_out_below old h.recorded.calls pairs call)
      ∙ ap (λ (calls : List ℕ). entries_with_all (entries_with old.book.entries (Judged call Wrong)) (map (λ other. Judged other Right) calls))
      (left_alike h old search pairs call)
  entries_are (Err fault.Full) a = ap (λ (search : Search). search.book.entries) a.1
  entries_are (Err (fault.NoCall number)) a = absurd a
  entries_are (Err (fault.NoRoutine number)) a = absurd a
  entries_are (Err (fault.NotStanding number)) a = absurd a
  entries_are (Err fault.NothingStanding) a = absurd a

  pub still_search : (result : Result (ℕ × ℕ) BookFault)
      → AnswersLeftOut old call (left_out_below old h.recorded.calls pairs call) new result → IsSearchOf (subject_of h) new
  still_search (Ok numbers) a =
      subst (IsSearchOf (subject_of h)) (sym a.0)
      (all_more (subject_of h) (search_with old (Judged call Wrong)) (left_out_below old h.recorded.calls pairs call)
      (one_more (subject_of h) old (Judged call Wrong) search))
  still_search (Err fault.Full) a = subst (IsSearchOf (subject_of h)) (sym a.1) search
  still_search (Err (fault.NoCall number)) a = absurd a
  still_search (Err (fault.NoRoutine number)) a = absurd a
  still_search (Err (fault.NotStanding number)) a = absurd a
  still_search (Err fault.NothingStanding) a = absurd a
