-- The entries after one more answer, and that they stay where no more is asked.
use Rattle.std.proofs.Common.{◌+◌, ◌-◌, ◌<◌, ◌∙◌, ◌∷◌, ◌≡◌, ◌≤◌, [], ℕ, List, Ok, add-one, add-suc, add-zero, ap, arith, false, length, length-append, refl}
use Rattle.std.proofs.{Common.suc, Common.sym, Common.true, Common.zero, lemmas.Bool.cond-false, lemmas.Bool.lt-leb}
use Rattle.answer_book.specs.{Answers.Answers, Answers.judge_answer, Entries.entry_saying, Entries.first_entries}
use Rattle.answer_book.specs.declared.entries.{Entry.Entry, What.TheVariants.Judged}
use Rattle.optimal_query.specs.{Search.Search, declared.state.SearchState.SearchState}
use Rattle.optimal_query.specs.declared.state.SearchState.TheVariants.{Ask, Found, Narrowed, NothingWrong, Unclear}
use Rattle.dialog_replies.specs.{Kept.IsSearchOf, Subject.Subject, Subject.calls_recorded, Subject.state_after}
use Rattle.made_program.specs.Answering.{answered_to, entries_answered, entries_at_end, judgement_of, most_answers, questions_of}
use Rattle.made_program.specs.Asked.{asks}

pub one_more : (s : Subject) (entries : List Entry) {entries' : List Entry} (n : ℕ) → entries ≡ entries_answered s n
    → entries' ≡ answered_to s entries (state_after s entries) → entries' ≡ entries_answered s (n + 1)
unfolding entries_answered
one_more s entries n e step = rw add-one (step ∙ ap (λ (es : List Entry). answered_to s es (state_after s es)) e)

longer : (s : Subject) (entries : List Entry) (state : SearchState) → asks state ≡ true → length (answered_to s entries state) ≡ length entries + 1
longer s entries (Ask call weight suspects left) h = length-append entries (entry_saying (Judged call (judgement_of s call)) ∷ [])
longer s entries (Found call) h = absurd (let l : ⊥ = cc in l)
longer s entries (Narrowed call) h = absurd (let l : ⊥ = cc in l)
longer s entries NothingWrong h = absurd (let l : ⊥ = cc in l)
longer s entries Unclear h = absurd (let l : ⊥ = cc in l)

-- an answer is one more entry
pub one_longer : (s : Subject) (entries : List Entry) {entries' : List Entry} (n : ℕ) → asks (state_after s entries) ≡ true
    → entries' ≡ answered_to s entries (state_after s entries) → length entries ≡ n → length entries' ≡ n + 1
one_longer s entries n asked step e = ap length step ∙ longer s entries (state_after s entries) asked ∙ ap (λ (k : ℕ). k + 1) e

pub as_they_were : (s : Subject) (entries : List Entry) (state : SearchState) → asks state ≡ false → answered_to s entries state ≡ entries
as_they_were s entries (Ask call weight suspects left) h = absurd (let l : ⊥ = cc in l)
as_they_were s entries (Found call) h = refl
as_they_were s entries (Narrowed call) h = refl
as_they_were s entries NothingWrong h = refl
as_they_were s entries Unclear h = refl

-- where no more is asked, more answers change nothing
pub no_more : (s : Subject) (n more : ℕ) → asks (state_after s (entries_answered s n)) ≡ false → entries_answered s (n + more) ≡ entries_answered s n
unfolding entries_answered
no_more s n zero h = rw add-zero refl
no_more s n (suc more) h =
    rw add-suc
    (ap (λ (es : List Entry). answered_to s es (state_after s es)) (no_more s n more h)
    ∙ as_they_were s (entries_answered s n) (state_after s (entries_answered s n)) h)

-- so the entries in the end are those after this many answers
pub at_end : (s : Subject) (n : ℕ) → n ≤ 99999 → asks (state_after s (entries_answered s n)) ≡ false → entries_at_end s ≡ entries_answered s n
unfolding most_answers
at_end s n few h = let all : n + (99999 - n) ≡ most_answers = omega arith in ap (entries_answered s) (sym all) ∙ no_more s n (99999 - n) h

pub all_answered : (s : Subject) (n : ℕ) → n ≡ 99999 → entries_at_end s ≡ entries_answered s n
unfolding most_answers
all_answered s n e = ap (entries_answered s) (sym e)

-- a book with room takes a judgement on a call
pub taken : (book : Answers) (call : ℕ) → call < length book.routine → length book.entries < 100000
    → judge_answer book call ≡ Ok (length book.entries + 1)
taken book call inside room =
    cond-false _ _ _ (lt-leb (length book.routine) call inside) ∙ cond-false _ _ _ (lt-leb 100000 (length book.entries) room)

-- a call of the run is one of the book
pub in_book : (s : Subject) (search : Search) (call : ℕ) → IsSearchOf s search → call < calls_recorded s → call < length search.book.routine
in_book s search call h inside = omega (arith, ap (λ (xs : List ℕ). length xs) h.last, h.of_routines)

pub at_first : (s : Subject) → first_entries ≡ entries_answered s 0
unfolding entries_answered
at_first s = refl

-- the count is that of the entries after the first
pub counted_by : (s : Subject) (entries : List Entry) (n : ℕ) → entries ≡ entries_at_end s → length entries ≡ n + 1 → n ≡ questions_of s
counted_by s entries n e counted = let same : length entries ≡ length (entries_at_end s) = ap (λ (es : List Entry). length es) e in omega arith

-- where no more is asked, these are the entries in the end
pub stopped : (s : Subject) (entries : List Entry) (n : ℕ) → n < 99999 → entries ≡ entries_answered s n → asks (state_after s entries) ≡ false
    → entries ≡ entries_at_end s
stopped s entries n few e none = e ∙ sym (at_end s n (omega arith) (ap (λ (es : List Entry). asks (state_after s es)) (sym e) ∙ none))
