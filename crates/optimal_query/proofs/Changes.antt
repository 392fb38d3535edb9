-- What an entry changes, when it is made and when it is taken back.
use Rattle.std.proofs.Common.{◌++◌, ◌+◌, ◌-◌, ◌<◌, ◌==◌, ◌||◌, ◌∙◌, ◌∷◌, ◌≡◌, ◌≤◌, [], ℕ, Bool, Err, List, None, Ok, Option, Result, Some, ap, arith, cond}
use Rattle.std.proofs.Common.{false, get_or-set_same, inl, inr, length, nat_le, refl, replicate, slice_get, slice_index, slice_set, suc, sym, true, zero}
use Rattle.std.proofs.Math.Bool.{or-false}
use Rattle.std.proofs.lemmas.{Bool.cases_eq, Bool.false≢true, Bool.leb-false, Option.same_Some, Option.slice_get-get_or, Option.slice_get_within}
use Rattle.std.proofs.lemmas.List.{get_or-replicate, length-map, length-replicate, length-set, FromFn.fill_by_all, FromFn.length-map-range_with_len}
use Rattle.call_tree.specs.{Recording.Recording, Recording.routines_of, declared.records.Call.Call, declared.records.Mark.TheVariants.Unjudged}
use Rattle.subtree_weights.specs.{RunColumns.Columns, RunColumns.columns_of, Searched.mark_at, Weighed.Weighed, Weighed.call_count, Weighed.unjudged}
use Rattle.answer_book.{proofs.KeptLemmas.column_set, proofs.LastWhere.last_where_is, specs.Entries.standing_answers, specs.Entries.with_taken_back}
use Rattle.answer_book.proofs.EntryLemmas.{answers_with, in_another, last_with_other, on_another, trusted_with}
use Rattle.answer_book.proofs.WithdrawnLemmas.{entry_is_withdrawn, same_judgement, same_trust}
use Rattle.answer_book.specs.{Accused.accused_of, Accused.is_wrong, Answers.without_answer, InRange.IsInRange}
use Rattle.answer_book.specs.Answers.{Answers, judge_answer, new_book, next_number, number_or_fault, take_back_answer, take_back_last_answer, with_answer}
use Rattle.answer_book.specs.Entries.{entries_with, entries_without, entry_at, entry_saying, first_entries, is_standing, is_standing_entry, last_standing}
use Rattle.answer_book.specs.Marks.{is_trusted, last_judgement, mark_by, mark_given, mark_of, marks_of}
use Rattle.answer_book.specs.declared.entries.{BookFault.BookFault, Entry.Entry, Judgement.Judgement, Judgement.TheVariants.Wrong}
use Rattle.answer_book.specs.declared.entries.What.{What, TheVariants.Judged, TheVariants.Trusted}
use Rattle.optimal_query.proofs.OneMoreAnswer.{accused_is_last, at_mark, new_mark, old_mark}
use Rattle.optimal_query.specs.{DebugKept.AreKept, Search.Search}
use Rattle.optimal_query.specs.Changed.{ChangesCallsOf, ChangesOne, HadItsMark, MarkStays, WereMarks}

-- the columns of calls are of one length
pub one_length : (calls : List Call) {routine : List ℕ} {columns : Columns} → routines_of calls ≡ routine → columns_of calls ≡ columns
    → length routine ≡ length columns.last
one_length calls routines columns =
    sym (ap length routines) ∙ length-map calls (λ (call : Call). call.routine) ∙ sym (length-map calls (λ (call : Call). call.last))
    ∙ ap (λ (k : Columns). length k.last) columns

pub kept_length : (run : Recording) (book : Answers) (weighed : Weighed) → AreKept run book weighed → length book.routine ≡ call_count weighed
kept_length run book weighed kept = one_length run.calls kept.routines kept.columns

-- the accused is a call
pub accused_known : (run : Recording) (book : Answers) (weighed : Weighed) → AreKept run book weighed → (call : ℕ)
    → accused_of book.routine (standing_answers book.entries) ≡ Some call → call < call_count weighed
accused_known run book weighed kept call h =
    let found = last_where_is (λ k. is_wrong (mark_of book.routine (standing_answers book.entries) k)) (length book.routine) call
    (accused_is_last book.routine (standing_answers book.entries) (Some call) h) in
    omega (arith, found.inside, kept_length run book weighed kept)

judged_by : (book : Answers) (call number : ℕ) (b : Bool) → nat_le (length book.routine) call ≡ b
    → cond b (Err (BookFault.NoCall call)) (next_number book.entries) ≡ Ok number → call < length book.routine
judged_by book call number true is h = absurd (let l : ⊥ = cc in l)
judged_by book call number false is h = leb-false (length book.routine) call is

pub judged_call : (book : Answers) (call number : ℕ) → judge_answer book call ≡ Ok number → call < length book.routine
judged_call book call number h = judged_by book call number (nat_le (length book.routine) call) refl h

-- a judgement changes the mark of its call alone
pub were_judged : (run : Recording) (book : Answers) (weighed : Weighed) (call : ℕ) (judgement : Judgement) → AreKept run book weighed
    → call < length book.routine → ChangesOne (with_answer book (Judged call judgement)) weighed.marks call
were_judged run book weighed call judgement kept inside =
    let old = standing_answers book.entries in
    let new = standing_answers (entries_with book.entries (Judged call judgement)) in
    let more : new ≡ old ++ Judged call judgement ∷ [] = answers_with book.entries (Judged call judgement) in
    record {
      a_call = inside;
      others_stay = ap (λ m. slice_set m call (mark_of book.routine new call)) kept.marks
          ∙ column_set (mark_of book.routine old) (mark_of book.routine new) (length book.routine) call (mark_of book.routine new call) inside refl
          (λ other h differs. ap (λ a. mark_of book.routine a other) more ∙ old_mark book.routine old call judgement other differs);
    }

same_mark : (routine : List ℕ) (one other : List What) (call : ℕ) → last_judgement one call ≡ last_judgement other call
    → is_trusted one (slice_index routine call) ≡ is_trusted other (slice_index routine call) → mark_of routine one call ≡ mark_of routine other call
unfolding mark_of
same_mark routine one other call judged trusted =
    ap (λ o. mark_given o (is_trusted one (slice_index routine call))) judged ∙ ap (mark_given (last_judgement other call)) trusted

-- answers that differ in the trust in one routine alone
record TrustAlone (old new : List What) (routine : ℕ) : Type 0 where
  judged : (call : ℕ) → last_judgement old call ≡ last_judgement new call
  trusted : (other : ℕ) → (other ≡ routine → ⊥) → is_trusted old other ≡ is_trusted new other

-- the marks of the calls of all other routines stay
changes_calls : (run : Recording) (book : Answers) (weighed : Weighed) (after : List Entry) (routine : ℕ) → AreKept run book weighed
    → TrustAlone (standing_answers book.entries) (standing_answers after) routine
    → ChangesCallsOf (record book { entries = after }) weighed.marks routine
changes_calls run book weighed after routine kept alone =
    let old = standing_answers book.entries in
    record {
      each = ap length kept.marks ∙ length-map-range_with_len (mark_of book.routine old) 0 (length book.routine);
      others_stay = λ call inside other. ap (λ m. mark_at m call) kept.marks ∙ at_mark book.routine old call inside
          ∙ same_mark book.routine old (standing_answers after) call (alone.judged call) (alone.trusted (slice_index book.routine call) other);
    }

-- trust in a routine changes the marks of its calls alone
pub were_trusted : (run : Recording) (book : Answers) (weighed : Weighed) (routine : ℕ) → AreKept run book weighed
    → ChangesCallsOf (with_answer book (Trusted routine)) weighed.marks routine
were_trusted run book weighed routine kept =
    let old = standing_answers book.entries in
    changes_calls run book weighed (entries_with book.entries (Trusted routine)) routine kept
    (record {
      judged = λ call. sym (last_with_other book.entries (Trusted routine) call refl);
      trusted = λ other differs. sym (trusted_with book.entries (Trusted routine) other
          ∙ ap (λ b. is_trusted old other || b) (in_another routine other differs) ∙ or-false (is_trusted old other));
    })

-- and so when an entry is taken back
pub were_withdrawn : (run : Recording) (book : Answers) (weighed : Weighed) (number : ℕ) (what : What) → AreKept run book weighed
    → entry_at book.entries number ≡ Some (entry_saying what) → IsInRange (length book.routine) book.routines what
    → WereMarks (without_answer book number) weighed.marks what
were_withdrawn run book weighed number (Trusted routine) kept at named =
    let after = entries_without book.entries number in
    let w = entry_is_withdrawn book.entries number (Trusted routine) at in
    changes_calls run book weighed after routine kept
    (record {
      judged = λ call. sym (same_judgement book.entries after (number - 1) (Trusted routine) call w refl);
      trusted = λ other differs. sym (same_trust book.entries after (number - 1) (Trusted routine) other w (in_another routine other differs));
    })
were_withdrawn run book weighed number (Judged call judgement) kept at named =
    let old = standing_answers book.entries in
    let after = entries_without book.entries number in
    let new = standing_answers after in
    let what = Judged call judgement in
    let w = entry_is_withdrawn book.entries number what at in
    record {
      a_call = named;
      others_stay = ap (λ m. slice_set m call (mark_of book.routine new call)) kept.marks
          ∙ column_set (mark_of book.routine old) (mark_of book.routine new) (length book.routine) call (mark_of book.routine new call) named refl
          (λ other h differs. same_mark book.routine new old other
          (same_judgement book.entries after (number - 1) what other w (on_another call other judgement differs))
          (same_trust book.entries after (number - 1) what (slice_index book.routine other) w refl));
    }

none_said : (routine : List ℕ) (n : ℕ) → n ≡ length routine → replicate n Unjudged ≡ marks_of routine []
unfolding mark_of
none_said routine n long = fill_by_all (mark_of routine []) (replicate n Unjudged) (length routine) Unjudged (length-replicate n Unjudged ∙ long)
    (λ k inside. get_or-replicate n k Unjudged Unjudged (omega arith))

-- the first entry of a book changes the mark of the first call alone
pub were_unjudged : (run : Recording) → 0 < length run.calls → ChangesOne (new_book run) (unjudged run.calls).marks 0
were_unjudged run some =
    let routine = routines_of run.calls in
    let long : length run.calls ≡ length routine = sym (length-map run.calls (λ (call : Call). call.routine)) in
    let new = mark_of routine (standing_answers first_entries) in
    record {
      a_call = omega (arith, long);
      others_stay = ap (λ m. slice_set m 0 (new 0)) (none_said routine (length run.calls) long)
          ∙ column_set (mark_of routine []) new (length routine) 0 (new 0) (omega (arith, long)) refl
          (λ other h differs. old_mark routine [] 0 Wrong other differs);
    }

at_case : (b : Bool) (o : Option Entry) (entry : Entry) → cond b None o ≡ Some entry → (b ≡ false) × (o ≡ Some entry)
at_case true o entry h = absurd (let l : ⊥ = cc in l)
at_case false o entry h = (refl, h)

standing_is : (entry : Entry) → entry.standing ≡ true → entry ≡ entry_saying entry.what
standing_is entry h = ap (λ b. let e : Entry = record { what = entry.what; standing = b } in e) h

said_before : (entries : List Entry) (number : ℕ) (o : Option Entry) (after : Entry) → entry_at entries number ≡ o → is_standing_entry o ≡ true
    → entry_at (with_taken_back entries (number - 1) o) number ≡ Some after → entry_at entries number ≡ Some (entry_saying after.what)
said_before entries number None after at stands found = absurd (false≢true stands)
said_before entries number (Some entry) after at stands found =
    let taken : Entry = record { what = entry.what; standing = false } in
    let before = at_case (number == 0) (slice_get entries (number - 1)) entry at in
    let then = at_case (number == 0) (slice_get (slice_set entries (number - 1) taken) (number - 1)) after found in
    let inside = slice_get_within entries (number - 1) entry before.1 in
    let long : number - 1 < length (slice_set entries (number - 1) taken) = omega (arith, inside, length-set entries (number - 1) taken) in
    let same : taken ≡ after =
    same_Some taken after (sym (slice_get-get_or (slice_set entries (number - 1) taken) (number - 1) taken long
    ∙ ap Some (get_or-set_same entries (number - 1) taken taken inside)) ∙ then.1) in
    let what : entry.what ≡ after.what = ap (λ (e : Entry). e.what) same in
    at ∙ ap Some (standing_is entry stands ∙ ap entry_saying what)

-- an entry that was taken back said what it says now, and stood
pub entry_before : (entries : List Entry) (number : ℕ) (after : Entry) → is_standing entries number ≡ true
    → entry_at (entries_without entries number) number ≡ Some after → entry_at entries number ≡ Some (entry_saying after.what)
entry_before entries number after stands found = said_before entries number (entry_at entries number) after refl stands found

taken_by : (number : ℕ) (b : Bool) → ◌≡◌ {A = Result (Unit {0}) BookFault} (cond b (Ok tt) (Err (BookFault.NotStanding number))) (Ok tt) → b ≡ true
taken_by number true h = refl
taken_by number false h = absurd (let l : ⊥ = cc in l)

pub stood : (book : Answers) (number : ℕ) → take_back_answer book number ≡ Ok tt → is_standing book.entries number ≡ true
stood book number h = taken_by number (is_standing book.entries number) h

last_by : (o : Option ℕ) (number : ℕ) → number_or_fault o ≡ Ok number → o ≡ Some number
last_by None number h = absurd (let l : ⊥ = cc in l)
last_by (Some other) number h = let same : other ≡ number = cc in ap Some same

-- the last entry that stands
pub record IsLastStanding (entries : List Entry) (number : ℕ) : Type 0 where
  pub stands : is_standing entries number ≡ true
  pub from_one : 1 ≤ number
  pub made : number ≤ length entries

nothing_at_zero : (entries : List Entry) (number : ℕ) → is_standing entries number ≡ true → number ≡ 0 → ⊥
nothing_at_zero entries zero stands h = false≢true stands
nothing_at_zero entries (suc number) stands h = let l : ⊥ = omega arith in l

pub last_stood : (book : Answers) (number : ℕ) → take_back_last_answer book ≡ Ok number → IsLastStanding book.entries number
last_stood book number h =
    let found = last_where_is (is_standing book.entries) (length book.entries + 1) number (last_by (last_standing book.entries) number h) in
    record {
      stands = found.passes;
      from_one = elim (cases_eq number 0) [
        | inl same ↦ absurd (nothing_at_zero book.entries number found.passes same)
        | inr differs ↦ omega arith
      ];
      made = omega (arith, found.inside);
    }

without_long : (entries : List Entry) (place : ℕ) (o : Option Entry) → length (with_taken_back entries place o) ≡ length entries
without_long entries place None = refl
without_long entries place (Some entry) = length-set entries place (record { what = entry.what; standing = false })

pub without_length : (entries : List Entry) (number : ℕ) → length (entries_without entries number) ≡ length entries
without_length entries number = without_long entries (number - 1) (entry_at entries number)

-- ---- where the mark stays

-- a call that is judged as it was marked
pub marked_so : (run : Recording) (book : Answers) (weighed : Weighed) (call : ℕ) (judgement : Judgement) → AreKept run book weighed
    → call < length book.routine → mark_of book.routine (standing_answers book.entries) call ≡ mark_by judgement
    → HadItsMark (with_answer book (Judged call judgement)) weighed.marks (Judged call judgement)
marked_so run book weighed call judgement kept inside same =
    let old = standing_answers book.entries in
    ap (λ m. mark_at m call) kept.marks ∙ at_mark book.routine old call inside ∙ same
    ∙ sym (ap (λ a. mark_of book.routine a call) (answers_with book.entries (Judged call judgement)) ∙ new_mark book.routine old call judgement)

-- the entry that is taken back says what it is known to say
says_so : (s : Search) (book : Answers) (number call : ℕ) (judgement : Judgement) (what : What) → s.book ≡ book
    → entry_at s.book.entries number ≡ Some (entry_saying (Judged call judgement)) → entry_at book.entries number ≡ Some (entry_saying what)
    → Judged call judgement ≡ what
says_so s book number call judgement what is judged at =
    ap (λ (e : Entry). e.what) (same_Some _ _ (sym judged ∙ ap (λ (b : Answers). entry_at b.entries number) is ∙ at))

pub stays_so : (run : Recording) (book : Answers) (weighed : Weighed) (s : Search) (number : ℕ) (what : What) → AreKept run book weighed → s.book ≡ book
    → entry_at book.entries number ≡ Some (entry_saying what) → IsInRange (length book.routine) book.routines what → MarkStays s number
    → HadItsMark (without_answer book number) weighed.marks what
stays_so run book weighed s number (Trusted routine) kept is at named m =
    let said = says_so s book number m.call m.judgement (Trusted routine) is m.judged at in
    absurd (let l : ⊥ = cc in l)
stays_so run book weighed s number (Judged call judgement) kept is at named m =
    let said = says_so s book number m.call m.judgement (Judged call judgement) is m.judged at in
    let here : m.call ≡ call = cc in
    ap (λ k. mark_at k call) kept.marks ∙ at_mark book.routine (standing_answers book.entries) call named
    ∙ sym (λ i. mark_of (is i).routine (standing_answers (is i).entries) (here i)) ∙ sym m.same
    ∙ (λ i. mark_of (is i).routine (standing_answers (entries_without (is i).entries number)) (here i))
