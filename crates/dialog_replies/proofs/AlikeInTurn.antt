-- Judgements on calls that are alike, as the entries of a book.
use Rattle.std.proofs.Common.{if◌then◌else◌, ◌++◌, ◌+◌, ◌<◌, ◌∙◌, ◌∷◌, ◌≡◌, [], ℕ, Bool, Err, List, Ok, OnErr, OnOk, Result, ap, append-nil, append_assoc}
use Rattle.std.proofs.Common.{arith, false, filter, fold, length, nat_le, nat_lt, refl, subst, sym, true}
use Rattle.std.{proofs.lemmas.Bool.Decides.nat_tests, proofs.lemmas.List.length-map, proofs.lemmas.List.Concat.flat_map-append, specs.List.flat_map}
use Rattle.answer_book.specs.{Answers.Answers, Entries.entries_without, Numbers.numbers_below}
use Rattle.answer_book.specs.declared.entries.{BookFault.BookFault, Judgement.Judgement, What.What}
use Rattle.answer_book.specs.declared.entries.BookFault.TheVariants as fault
use Rattle.optimal_query.specs.Search.{Search, search_with, search_without}
use Rattle.answer_reuse.proofs.NumbersPassing.{one_if, passing_more}
use Rattle.answer_reuse.specs.{Classes.class_of, Classes.class_size, Shared.take_back_alike_answer}
use Rattle.answer_reuse.specs.Shared.{judge_alike_answer, judged_each, number_taken, search_with_each, search_without_each, standing_alike}
use Rattle.dialog_replies.specs.{Alike.entries_without_all, Kept.IsSearchOf, Replies.numbered, Subject.Subject}
use Rattle.dialog_replies.specs.Slices.{all_answer, entries_after_all, entries_with_all}

-- ---- the calls of a class are told one after another

appended : (b : Bool) (n : ℕ) → flat_map numbered (one_if b n) ≡ (if b then numbered n else [])
appended true n = append-nil (numbered n)
appended false n = refl

pub told_more : (p : ℕ → Bool) (before : List ℕ) (n : ℕ)
    → (before ++ flat_map numbered (filter p (numbers_below n))) ++ (if p n then numbered n else [])
    ≡ before ++ flat_map numbered (filter p (numbers_below (n + 1)))
told_more p before n =
    append_assoc before (flat_map numbered (filter p (numbers_below n))) (if p n then numbered n else [])
    ∙ ap (λ (l : List ℕ). before ++ l)
    (ap (λ (l : List ℕ). flat_map numbered (filter p (numbers_below n)) ++ l) (sym (appended (p n) n))
    ∙ sym (flat_map-append numbered (filter p (numbers_below n)) (one_if (p n) n)) ∙ ap (flat_map numbered) (sym (passing_more p n)))

-- ---- judgements on all of them

-- what is answered where there is room, or where there is none
abbrev if_room : ℕ → ℕ → Bool → Result (ℕ × ℕ) BookFault
if_room made size fits = if fits then Ok (made + 1, made + size) else Err fault.Full

abbrev if_full : ℕ → ℕ → Bool → Result (ℕ × ℕ) BookFault
if_full made size full = if full then Err fault.Full else Ok (made + 1, made + size)

room : (made size : ℕ) (fits : Bool) → nat_le (made + size) 100000 ≡ fits
    → if_full made size (nat_lt 100000 (made + size)) ≡ if_room made size (nat_le (made + size) 100000)
room made size true e =
    let many : nat_lt 100000 (made + size) ≡ false = grind (arith, nat_tests, e) in
    ap (if_full made size) many ∙ sym (ap (if_room made size) e)
room made size false e =
    let many : nat_lt 100000 (made + size) ≡ true = grind (arith, nat_tests, e) in
    ap (if_full made size) many ∙ sym (ap (if_room made size) e)

pub judged_answer : (book : Answers) (classes : List ℕ) (judgement : Judgement) (call : ℕ) → call < length book.routine
    → judge_alike_answer book classes call ≡ all_answer book.entries (judged_each judgement (class_of classes call))
judged_answer book classes judgement call inside =
    let here : nat_le (length book.routine) call ≡ false = grind (arith, nat_tests, inside) in
    let made : ℕ = length book.entries in
    let long : length (judged_each judgement (class_of classes call)) ≡ class_size classes call =
    length-map (class_of classes call) (λ call. What.Judged call judgement) in
    ap (λ (b : Bool). if b then Err (fault.NoCall call) else if_full made (class_size classes call) (nat_lt 100000 (made + class_size classes call))) here
    ∙ room made (class_size classes call) (nat_le (made + class_size classes call) 100000) refl
    ∙ sym (ap (λ (n : ℕ). if_room made n (nat_le (made + n) 100000)) long)

-- a search over the same calls
pub record IsOver (old new : Search) : Type 0 where
  pub last : new.last ≡ old.last
  pub routine : new.book.routine ≡ old.book.routine
  pub routines : new.book.routines ≡ old.book.routines

pub still_of : {s : Subject} {old new : Search} → IsOver old new → IsSearchOf s old → IsSearchOf s new
still_of over of = record {
  last = over.last ∙ of.last;
  routine = over.routine ∙ of.routine;
  routines = over.routines ∙ of.routines;
  of_routines = ap (λ (l : List ℕ). length l) over.routine ∙ of.of_routines ∙ sym (ap (λ (l : List ℕ). length l) over.last);
  some = of.some;
}

same : (s : Search) → IsOver s s
same s = record { last = refl; routine = refl; routines = refl }

with_over : (s : Search) (whats : List What) → IsOver s (search_with_each s whats)
with_over s [] = same s
with_over s (what ∷ whats) = let more = with_over (search_with s what) whats in record { last = more.last; routine = more.routine; routines = more.routines }

with_entries : (s : Search) (whats : List What) → (search_with_each s whats).book.entries ≡ entries_with_all s.book.entries whats
with_entries s [] = refl
with_entries s (what ∷ whats) = with_entries (search_with s what) whats

pub judged_entries : (old new : Search) (whats : List What) (answer : Result (ℕ × ℕ) BookFault) → OnOk answer (new ≡ search_with_each old whats)
    → OnErr answer (new ≡ old) → new.book.entries ≡ entries_after_all old.book.entries whats answer
judged_entries old new whats (Ok numbers) is refused = ap (λ (s : Search). s.book.entries) is ∙ with_entries old whats
judged_entries old new whats (Err why) accepted is = ap (λ (s : Search). s.book.entries) is

pub judged_over : (old new : Search) (whats : List What) (answer : Result (ℕ × ℕ) BookFault) → OnOk answer (new ≡ search_with_each old whats)
    → OnErr answer (new ≡ old) → IsOver old new
judged_over old new whats (Ok numbers) is refused = subst (IsOver old) (sym is) (with_over old whats)
judged_over old new whats (Err why) accepted is = subst (IsOver old) (sym is) (same old)

-- ---- and taken back

pub taken_answer : (book : Answers) (classes : List ℕ) (call : ℕ) → call < length book.routine
    → take_back_alike_answer book classes call ≡ number_taken (standing_alike book.entries classes call)
taken_answer book classes call inside =
    let here : nat_le (length book.routine) call ≡ false = grind (arith, nat_tests, inside) in
    ap (λ (b : Bool). if b then Err (fault.NoCall call) else number_taken (standing_alike book.entries classes call)) here

without_over : (s : Search) (numbers : List ℕ) → IsOver s (search_without_each s numbers)
without_over s [] = same s
without_over s (number ∷ numbers) =
    let more = without_over (search_without s number) numbers in record { last = more.last; routine = more.routine; routines = more.routines }

without_entries : (s : Search) (numbers : List ℕ) → (search_without_each s numbers).book.entries ≡ fold entries_without s.book.entries numbers
without_entries s [] = refl
without_entries s (number ∷ numbers) = without_entries (search_without s number) numbers

pub taken_entries : (old new : Search) (numbers : List ℕ) (answer : Result ℕ BookFault) → OnOk answer (new ≡ search_without_each old numbers)
    → OnErr answer (new ≡ old) → new.book.entries ≡ entries_without_all old.book.entries numbers answer
taken_entries old new numbers (Ok taken) is refused = ap (λ (s : Search). s.book.entries) is ∙ without_entries old numbers
taken_entries old new numbers (Err why) accepted is = ap (λ (s : Search). s.book.entries) is

pub taken_over : (old new : Search) (numbers : List ℕ) (answer : Result ℕ BookFault) → OnOk answer (new ≡ search_without_each old numbers)
    → OnErr answer (new ≡ old) → IsOver old new
taken_over old new numbers (Ok taken) is refused = subst (IsOver old) (sym is) (without_over old numbers)
taken_over old new numbers (Err why) accepted is = subst (IsOver old) (sym is) (same old)
