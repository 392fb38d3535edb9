-- Which calls are left out does not hang on which of them were judged before.
use Rattle.std.proofs.Common.{if◌then◌else◌, ◌&&◌, ◌*◌, ◌++◌, ◌+◌, ◌-◌, ◌<◌, ◌∙◌, ◌∷◌, ◌≡◌, ◌≢◌, ◌≤◌, [], ℕ, Bool, Err, List, None, Ok, Option, Result, Some}
use Rattle.std.proofs.Common.{ap, append-nil, arith, false, filter, inl, inr, length, length-append, nat_le, not, refl, slice_index, subst, suc, sym, true}
use Rattle.std.proofs.{Common.zero, lemmas.Option.get_or_from_slice_get, lemmas.Option.slice_get-map, lemmas.Option.slice_get_within}
use Rattle.std.proofs.lemmas.{Bool.Decides.nat_tests, List.length-map, List.Elements.filter_map-append, List.Sums.sum_by_push}
use Rattle.std.specs.{List.range_with_len, List.slice_get, Option.option_map}
use Rattle.core_program.proofs.OutcomesCompose.{none_some, some_same}
use Rattle.call_tree.specs.{Clear.is_unjudged, Numbering.IsNumbered, declared.records.Call.Call as Row}
use Rattle.call_tree.specs.Recording.{lasts_of, parents_of, routines_of}
use Rattle.answer_book.specs.{Answers.Answers, Answers.judge_answer, Answers.next_number, Marks.mark_of}
use Rattle.answer_book.specs.Entries.{entries_with, entry_saying, said_by, standing_answers}
use Rattle.answer_book.specs.declared.entries.{BookFault.BookFault, BookFault.TheVariants.Full, BookFault.TheVariants.NoCall, Entry.Entry, Judgement.Judgement}
use Rattle.answer_book.specs.declared.entries.{Judgement.TheVariants.Right, Judgement.TheVariants.Wrong, What.What, What.TheVariants.Judged}
use Rattle.optimal_query.{proofs.OneMoreAnswer.old_mark, specs.Search.Search, specs.Search.answers_in, specs.Search.mark_now, specs.Search.search_with}
use Rattle.output_slice.proofs.{ActsAlike.false_true, AmongLists.Among}
use Rattle.output_slice.specs.{Backward.some_at, declared.outputs.Output.Output}
use Rattle.output_slice.specs.LeftOut.{AnswersLeftOut, is_left_out, judged_right, left_out, left_out_below, parent_alone, sliced_call, steps_on, steps_on_all}

-- ---- marks

pub standing_more : (entries : List Entry) (what : What) → standing_answers (entries_with entries what) ≡ standing_answers entries ++ what ∷ []
standing_more entries what = filter_map-append said_by entries (entry_saying what ∷ [])

-- the mark of another call, in any column of routines
pub mark_beside : (routine : List ℕ) (s : Search) (k n : ℕ) (j : Judgement) → n ≢ k
    → mark_of routine (answers_in (search_with s (Judged k j))) n ≡ mark_of routine (answers_in s) n
mark_beside routine s k n j ne = ap (λ a. mark_of routine a n) (standing_more s.book.entries (Judged k j))
    ∙ old_mark routine (answers_in s) k j n ne

mark_other : (s : Search) (k n : ℕ) (j : Judgement) → n ≢ k → mark_now (search_with s (Judged k j)) n ≡ mark_now s n
mark_other s k n j ne = mark_beside s.book.routine s k n j ne

mark_kept : (s : Search) (xs : List ℕ) (n : ℕ) → ((k : ℕ) → Among k xs → n ≢ k) → mark_now (judged_right s xs) n ≡ mark_now s n
mark_kept s [] n ne = refl
mark_kept s (x ∷ xs) n ne = mark_kept (search_with s (Judged x Right)) xs n (λ k a. ne k (inr a)) ∙ mark_other s x n Right (ne x (inl refl))

-- ---- numbers that pass a test

pub between : (p : ℕ → Bool) (a m k : ℕ) → Among k (filter p (range_with_len a m)) → (a ≤ k) × (k < a + m)
between p a zero k h = absurd h
between p a (suc m) k h = by (p a) (λ g. between p (a + 1) m k g) h
  where
    by : (b : Bool) → (Among k (filter p (range_with_len (a + 1) m)) → (a + 1 ≤ k) × (k < (a + 1) + m))
        → Among k (if b then a ∷ filter p (range_with_len (a + 1) m) else filter p (range_with_len (a + 1) m)) → (a ≤ k) × (k < a + suc m)
    by true go (inl e) = (omega (arith, e), omega (arith, e))
    by true go (inr g) = let l = go g in (omega (arith, l.0), omega (arith, l.1))
    by false go g = let l = go g in (omega (arith, l.0), omega (arith, l.1))

-- with one number more
pub passing_more : (p : ℕ → Bool) (a m : ℕ) → filter p (range_with_len a (m + 1)) ≡ filter p (range_with_len a m) ++ (if p (a + m) then (a + m) ∷ [] else [])
passing_more p a zero = ap (λ k. if p k then k ∷ [] else []) (let e : a ≡ a + 0 = omega arith in e)
passing_more p a (suc m) = ap (λ n. filter p (range_with_len a n)) (let e : suc m + 1 ≡ suc (m + 1) = omega arith in e)
    ∙ by (p a) (passing_more p (a + 1) m ∙ ap (λ k. filter p (range_with_len (a + 1) m) ++ (if p k then k ∷ [] else []))
    (let e : (a + 1) + m ≡ a + suc m = omega arith in e))
  where
    by : (b : Bool) → filter p (range_with_len (a + 1) (m + 1)) ≡ filter p (range_with_len (a + 1) m) ++ (if p (a + suc m) then (a + suc m) ∷ [] else [])
        → (if b then a ∷ filter p (range_with_len (a + 1) (m + 1)) else filter p (range_with_len (a + 1) (m + 1)))
        ≡ (if b then a ∷ filter p (range_with_len (a + 1) m) else filter p (range_with_len (a + 1) m)) ++ (if p (a + suc m) then (a + suc m) ∷ [] else [])
    by true e = ap (λ l. a ∷ l) e
    by false e = e

one_length : {X : Type 0} (b : Bool) (x : X) → length (if b then x ∷ [] else []) ≡ (if b then 1 else 0)
one_length true x = refl
one_length false x = refl

pub count_more : (p : ℕ → Bool) (a m : ℕ) → length (filter p (range_with_len a (m + 1))) ≡ length (filter p (range_with_len a m)) + (if p (a + m) then 1 else 0)
count_more p a m = ap length (passing_more p a m) ∙ length-append (filter p (range_with_len a m)) (if p (a + m) then (a + m) ∷ [] else [])
    ∙ ap (λ n. length (filter p (range_with_len a m)) + n) (one_length (p (a + m)) (a + m))

pub count_most : (p : ℕ → Bool) (a m : ℕ) → length (filter p (range_with_len a m)) ≤ m
count_most p a zero = omega arith
count_most p a (suc m) = by (p a) (count_most p (a + 1) m)
  where
    by : (b : Bool) → length (filter p (range_with_len (a + 1) m)) ≤ m
        → length (if b then a ∷ filter p (range_with_len (a + 1) m) else filter p (range_with_len (a + 1) m)) ≤ suc m
    by true h = omega (arith, h)
    by false h = omega (arith, h)

-- of more numbers at least as many pass
pub count_grows : (p : ℕ → Bool) (a m n : ℕ) → m ≤ n → length (filter p (range_with_len a m)) ≤ length (filter p (range_with_len a n))
count_grows p a zero n h = omega arith
count_grows p a (suc m) zero h = absurd (omega (arith, h))
count_grows p a (suc m) (suc n) h = by (p a) (count_grows p (a + 1) m n (omega (arith, h)))
  where
    by : (b : Bool) → length (filter p (range_with_len (a + 1) m)) ≤ length (filter p (range_with_len (a + 1) n))
        → length (if b then a ∷ filter p (range_with_len (a + 1) m) else filter p (range_with_len (a + 1) m))
        ≤ length (if b then a ∷ filter p (range_with_len (a + 1) n) else filter p (range_with_len (a + 1) n))
    by true h = omega (arith, h)
    by false h = h

-- ---- calls that are judged

judged_append : (s : Search) (xs ys : List ℕ) → judged_right s (xs ++ ys) ≡ judged_right (judged_right s xs) ys
judged_append s [] ys = refl
judged_append s (x ∷ xs) ys = judged_append (search_with s (Judged x Right)) xs ys

pub judged_more : (s : Search) (xs : List ℕ) (b : Bool) (x : ℕ)
    → judged_right s (xs ++ (if b then x ∷ [] else [])) ≡ (if b then search_with (judged_right s xs) (Judged x Right) else judged_right s xs)
judged_more s xs true x = judged_append s xs (x ∷ [])
judged_more s xs false x = ap (judged_right s) (append-nil xs)

pub judged_entries : (s : Search) (xs : List ℕ) → length (judged_right s xs).book.entries ≡ length s.book.entries + length xs
judged_entries s [] = omega arith
judged_entries s (x ∷ xs) = omega (arith, judged_entries (search_with s (Judged x Right)) xs, length-append s.book.entries (entry_saying (Judged x Right) ∷ []))

pub judged_routine : (s : Search) (xs : List ℕ) → (judged_right s xs).book.routine ≡ s.book.routine
judged_routine s [] = refl
judged_routine s (x ∷ xs) = judged_routine (search_with s (Judged x Right)) xs

pub judged_depth : (s : Search) (xs : List ℕ) → (judged_right s xs).depth ≡ s.depth
judged_depth s [] = refl
judged_depth s (x ∷ xs) = judged_depth (search_with s (Judged x Right)) xs

-- while the first calls below a call are judged, and it itself, it is the same calls later on that are left out
pub left_out_stays : (s : Search) (parents : List (Option ℕ)) (pairs : List (ℕ × Output)) (call m : ℕ)
    → is_left_out (judged_right (search_with s (Judged call Wrong)) (filter (is_left_out s parents pairs) (range_with_len (call + 1) m))) parents pairs
    ((call + 1) + m)
    ≡ is_left_out s parents pairs ((call + 1) + m)
left_out_stays s parents pairs call m =
    let n = (call + 1) + m in
    let p = is_left_out s parents pairs in
    ap (λ mark. parent_alone pairs n (slice_get parents n) && is_unjudged mark)
    (mark_kept (search_with s (Judged call Wrong)) (filter p (range_with_len (call + 1) m)) n (λ k a. apart k a)
    ∙ mark_other s call n Wrong (λ e. omega (arith, e)))
  where
    apart : (k : ℕ) → Among k (filter (is_left_out s parents pairs) (range_with_len (call + 1) m)) → (call + 1) + m ≢ k
    apart k a e = let l = between (is_left_out s parents pairs) (call + 1) m k a in omega (arith, l.1, e)

-- ---- the calls below the sliced one, one after another

-- those of the first calls below it that are left out were judged right
pub record WereJudged (old now : Search) (parents : List (Option ℕ)) (pairs : List (ℕ × Output)) (call m last : ℕ) : Type 0 where
  pub search : now ≡ judged_right (search_with old (Judged call Wrong)) (left_out old parents pairs call m)
  pub number : last ≡ length old.book.entries + 1 + length (left_out old parents pairs call m)

module _ {old now : Search} {parents : List (Option ℕ)} {pairs : List (ℕ × Output)} {call m last : ℕ} (w : WereJudged old now parents pairs call m last) where
  abbrev tests : ℕ → Bool
  tests = is_left_out old parents pairs

  -- whether the next one is left out is what it was at the beginning
  pub next_left_out : is_left_out now parents pairs ((call + 1) + m) ≡ is_left_out old parents pairs ((call + 1) + m)
  next_left_out = ap (λ s. is_left_out s parents pairs ((call + 1) + m)) w.search ∙ left_out_stays old parents pairs call m

  pub routine_stays : now.book.routine ≡ old.book.routine
  routine_stays = ap (λ (s : Search). s.book.routine) w.search ∙ judged_routine (search_with old (Judged call Wrong)) (left_out old parents pairs call m)

  pub depth_stays : now.depth ≡ old.depth
  depth_stays = ap (λ (s : Search). s.depth) w.search ∙ judged_depth (search_with old (Judged call Wrong)) (left_out old parents pairs call m)

  pub entries_are : length now.book.entries ≡ length old.book.entries + 1 + length (left_out old parents pairs call m)
  entries_are =
      let same = ap (λ (s : Search). length s.book.entries) w.search in
      let more = judged_entries (search_with old (Judged call Wrong)) (left_out old parents pairs call m) in
      let first = length-append old.book.entries (entry_saying (Judged call Wrong) ∷ []) in
      omega (arith, same, more, first)

  -- there is room for the next one, where there is for all
  pub room_for_next : (so : Bool) → so ≡ is_left_out now parents pairs ((call + 1) + m) → (n : ℕ) → m < n
      → length old.book.entries + 1 + length (left_out old parents pairs call n) ≤ 100000 → so ≡ true → length now.book.entries < 100000
  room_for_next so is n l room left =
      let passes : tests ((call + 1) + m) ≡ true = sym next_left_out ∙ sym is ∙ left in
      let more = count_more tests (call + 1) m ∙ ap (λ b. length (filter tests (range_with_len (call + 1) m)) + (if b then 1 else 0)) passes in
      omega (arith, entries_are, room, more, count_grows tests (call + 1) (m + 1) n (omega (arith, l)))

  -- and it is judged if it is left out
  pub next_judged : (so : Bool) → so ≡ is_left_out now parents pairs ((call + 1) + m) → (new : Search) (next : ℕ)
      → new ≡ (if so then search_with now (Judged ((call + 1) + m) Right) else now) → next ≡ (if so then length now.book.entries + 1 else last)
      → WereJudged old new parents pairs call (m + 1) next
  next_judged so is new next e n =
      let n' = (call + 1) + m in
      let b = tests n' in
      let xs = left_out old parents pairs call m in
      let mid = search_with old (Judged call Wrong) in
      let same : so ≡ b = is ∙ next_left_out in
      record {
        search = e ∙ ap (λ b. if b then search_with now (Judged n' Right) else now) same
            ∙ ap (λ s. if b then search_with s (Judged n' Right) else s) w.search
            ∙ sym (judged_more mid xs b n') ∙ ap (judged_right mid) (sym (passing_more tests (call + 1) m));
        number = n ∙ ap (λ b. if b then length now.book.entries + 1 else last) same ∙ counted b
            ∙ ap (λ k. length old.book.entries + 1 + k) (sym (count_more tests (call + 1) m));
      }
    where
      counted : (b : Bool) → (if b then length now.book.entries + 1 else last)
          ≡ length old.book.entries + 1 + (length (left_out old parents pairs call m) + (if b then 1 else 0))
      counted true = omega (arith, entries_are)
      counted false = omega (arith, w.number)

  -- the steps of one call more
  pub next_steps : (so : Bool) → so ≡ is_left_out now parents pairs ((call + 1) + m) → (before between after : ℕ)
      → between ≤ before + steps_on_all old (left_out old parents pairs call m)
      → after ≤ between + (if so then steps_on now ((call + 1) + m) else 0)
      → after ≤ before + steps_on_all old (left_out old parents pairs call (m + 1))
  next_steps so is before between after a b =
      let n' = (call + 1) + m in
      let same : so ≡ tests n' = is ∙ next_left_out in
      let cost : (if so then steps_on now n' else 0) ≡ (if tests n' then steps_on old n' else 0) =
      ap (λ b. if b then steps_on now n' else 0) same ∙ ap (λ k. if tests n' then k else 0) (ap (λ d. 3 * (slice_index d n' + 1)) depth_stays) in
      let all = ap (steps_on_all old) (passing_more tests (call + 1) m) in
      omega (arith, a, b, cost, all, steps_more (tests n') n' (left_out old parents pairs call m))
    where
      steps_more : (b : Bool) (x : ℕ) (xs : List ℕ)
          → steps_on_all old (xs ++ (if b then x ∷ [] else [])) ≡ steps_on_all old xs + (if b then steps_on old x else 0)
      steps_more true x xs = sum_by_push (steps_on old) xs x
      steps_more false x xs = ap (steps_on_all old) (append-nil xs) ∙ (let z : steps_on_all old xs ≡ steps_on_all old xs + 0 = omega arith in z)

-- before the first of them
pub none_judged : (old now : Search) (parents : List (Option ℕ)) (pairs : List (ℕ × Output)) (call m last : ℕ)
    → now ≡ search_with old (Judged call Wrong) → last ≡ length old.book.entries + 1 → 0 ≡ m → WereJudged old now parents pairs call m last
none_judged old now parents pairs call m last e n z =
    subst (λ m. WereJudged old now parents pairs call m last) z (record { search = e; number = omega (arith, n) })

pub no_steps : (old : Search) (parents : List (Option ℕ)) (pairs : List (ℕ × Output)) (call m before after : ℕ) → 0 ≡ m
    → after ≤ before + steps_on old call → after ≤ before + steps_on old call + steps_on_all old (left_out old parents pairs call m)
no_steps old parents pairs call m before after z l =
    subst (λ m. after ≤ before + steps_on old call + steps_on_all old (left_out old parents pairs call m)) z (omega (arith, l))

-- ---- by the rows

pub parent_there : (rows : List Row) (k : ℕ) (row : Row) → slice_get rows k ≡ Some row → slice_get (parents_of rows) k ≡ Some row.parent
parent_there rows k row e = slice_get-map (λ (row : Row). row.parent) rows k ∙ ap (option_map (λ (row : Row). row.parent)) e

pub last_there : (rows : List Row) (k : ℕ) (row : Row) → slice_get rows k ≡ Some row → slice_index (lasts_of rows) k ≡ row.last
last_there rows k row e = get_or_from_slice_get (lasts_of rows) k row.last 0
    (slice_get-map (λ (row : Row). row.last) rows k ∙ ap (option_map (λ (row : Row). row.last)) e)

-- the last call below a call is one of the run, and its parent is one
pub last_inside : (rows : List Row) → IsNumbered (parents_of rows) (lasts_of rows) → (k : ℕ) (row : Row) → slice_get rows k ≡ Some row
    → (k ≤ row.last) × (row.last < length rows)
last_inside rows numbered k row e =
    let many = length-map rows (λ row. row.last) in
    let inside : k < length (lasts_of rows) = (let l = slice_get_within rows k row e in omega (arith, l, many)) in
    let from = numbered.intervals.from_itself k inside in
    let to = numbered.intervals.to_a_call k inside in
    let is = last_there rows k row e in
    (omega (arith, from, is), omega (arith, to, is, many))

pub parent_inside : (rows : List Row) → IsNumbered (parents_of rows) (lasts_of rows) → (k parent : ℕ) (row : Row) → slice_get rows k ≡ Some row
    → row.parent ≡ Some parent → parent < length rows
parent_inside rows numbered k parent row e p =
    let later = numbered.child_is_later parent k (parent_there rows k row e ∙ ap Some p) in
    let inside = slice_get_within rows k row e in
    omega (arith, later, inside)

pub many_routines : (rows : List Row) (s : Search) → s.book.routine ≡ routines_of rows → length s.book.routine ≡ length rows
many_routines rows s e = ap length e ∙ length-map rows (λ row. row.routine)

-- what is asked of a call decides whether it is left out
pub apart_is : (s : Search) (rows : List Row) (pairs : List (ℕ × Output)) (call parent : ℕ) (row : Row) → slice_get rows call ≡ Some row
    → row.parent ≡ Some parent → (a b d : Bool) → a ≡ some_at parent pairs → b ≡ some_at call pairs → d ≡ is_unjudged (mark_now s call)
    → ((a && not b) && d) ≡ is_left_out s (parents_of rows) pairs call
apart_is s rows pairs call parent row there p a b d ea eb ed =
    ap (λ a. (a && not b) && d) ea ∙ ap (λ b. (some_at parent pairs && not b) && d) eb
    ∙ ap (λ d. (some_at parent pairs && not (some_at call pairs)) && d) ed
    ∙ sym (ap (λ o. parent_alone pairs call o && is_unjudged (mark_now s call)) (parent_there rows call row there ∙ ap Some p))

pub root_stays : (s : Search) (rows : List Row) (pairs : List (ℕ × Output)) (call : ℕ) (row : Row) → slice_get rows call ≡ Some row
    → row.parent ≡ None → false ≡ is_left_out s (parents_of rows) pairs call
root_stays s rows pairs call row there p =
    sym (ap (λ o. parent_alone pairs call o && is_unjudged (mark_now s call)) (parent_there rows call row there ∙ ap Some p))

pub at_most_one : (b : Bool) → (if b then 1 else 0) ≤ 1
at_most_one true = omega arith
at_most_one false = omega arith

-- ---- a judgement for which there is room

pub judged_number : (book : Answers) (call : ℕ) → call < length book.routine → length book.entries < 100000
    → judge_answer book call ≡ Ok (length book.entries + 1)
judged_number book call a b =
    let known : nat_le (length book.routine) call ≡ false = grind (arith, nat_tests) in
    let room : nat_le 100000 (length book.entries) ≡ false = grind (arith, nat_tests) in
    ap (λ x. if x then Err (NoCall call) else next_number book.entries) known ∙ ap (λ x. if x then Err Full else Ok (length book.entries + 1)) room

abbrev ok_or : Result ℕ BookFault → ℕ
ok_or (Ok n) = n
ok_or (Err fault) = 0

abbrev is_fine : Result ℕ BookFault → Bool
is_fine (Ok n) = true
is_fine (Err fault) = false

pub number_is : (book : Answers) (call n : ℕ) → call < length book.routine → length book.entries < 100000 → Ok n ≡ judge_answer book call
    → n ≡ length book.entries + 1
number_is book call n a b e = ap ok_or (e ∙ judged_number book call a b)

pub no_fault : (book : Answers) (call : ℕ) (fault : BookFault) → call < length book.routine → length book.entries < 100000
    → Err fault ≡ judge_answer book call → ⊥
no_fault book call fault a b e = false_true (ap is_fine (e ∙ judged_number book call a b))

-- ---- the call that is sliced, and all calls below it

pub sliced_is : (pairs : List (ℕ × Output)) (y : ℕ × Output) → slice_get pairs 0 ≡ Some y → sliced_call pairs ≡ y.0
sliced_is [] y e = absurd (none_some e)
sliced_is (x ∷ xs) y e = ap (λ (y : ℕ × Output). y.0) (some_same e)

-- all of them were judged
pub all_judged : (old now : Search) (rows : List Row) (pairs : List (ℕ × Output)) (call m first last : ℕ) → sliced_call pairs ≡ call
    → m ≡ slice_index (lasts_of rows) call - call → first ≡ length old.book.entries + 1 → WereJudged old now (parents_of rows) pairs call m last
    → length old.book.entries + 1 + length (left_out_below old rows pairs call) ≤ 100000
    → AnswersLeftOut old (sliced_call pairs) (left_out_below old rows pairs (sliced_call pairs)) now (Ok (first, last))
all_judged old now rows pairs call m first last s e f w room =
    subst (λ n. AnswersLeftOut old n (left_out_below old rows pairs n) now (Ok (first, last))) (sym s)
    (subst (λ m. AnswersLeftOut old call (left_out old (parents_of rows) pairs call m) now (Ok (first, last))) e (
      w.search,
      (λ i. (f i, w.number i)),
      subst (λ n. length old.book.entries + 1 + length (left_out old (parents_of rows) pairs call n) ≤ 100000) (sym e) room,
    ))

pub all_steps : (old : Search) (rows : List Row) (pairs : List (ℕ × Output)) (call m before after : ℕ) → sliced_call pairs ≡ call
    → m ≡ slice_index (lasts_of rows) call - call → after ≤ before + steps_on old call + steps_on_all old (left_out old (parents_of rows) pairs call m)
    → after ≤ before + steps_on old (sliced_call pairs) + steps_on_all old (left_out_below old rows pairs (sliced_call pairs))
all_steps old rows pairs call m before after s e l =
    subst (λ n. after ≤ before + steps_on old n + steps_on_all old (left_out_below old rows pairs n)) (sym s)
    (subst (λ m. after ≤ before + steps_on old call + steps_on_all old (left_out old (parents_of rows) pairs call m)) e l)
