-- What a book answers to a change.
use Rattle.std.proofs.Common.{◌<◌, ◌≡◌, ◌≤◌, ℕ, Err, Ok, false, length, true}
use Rattle.std.proofs.lemmas.Bool.{cond-false, cond-true, le-leb, lt-leb}
use Rattle.answer_book.specs.{Entries.is_standing, declared.entries.BookFault.BookFault}
use Rattle.answer_book.specs.Answers.{Answers, judge_answer, next_number, take_back_answer, trust_answer}

pub no_call_answer : (book : Answers) (call : ℕ) → length book.routine ≤ call → judge_answer book call ≡ Err (BookFault.NoCall call)
no_call_answer book call beyond = cond-true _ _ _ (le-leb (length book.routine) call beyond)

pub call_answer : (book : Answers) (call : ℕ) → call < length book.routine → judge_answer book call ≡ next_number book.entries
call_answer book call inside = cond-false _ _ _ (lt-leb (length book.routine) call inside)

pub no_routine_answer : (book : Answers) (routine : ℕ) → book.routines ≤ routine → trust_answer book routine ≡ Err (BookFault.NoRoutine routine)
no_routine_answer book routine beyond = cond-true _ _ _ (le-leb book.routines routine beyond)

pub routine_answer : (book : Answers) (routine : ℕ) → routine < book.routines → trust_answer book routine ≡ next_number book.entries
routine_answer book routine inside = cond-false _ _ _ (lt-leb book.routines routine inside)

pub not_standing_answer : (book : Answers) (number : ℕ) → is_standing book.entries number ≡ false
    → take_back_answer book number ≡ Err (BookFault.NotStanding number)
not_standing_answer book number stands = cond-false _ _ _ stands

pub standing_answer : (book : Answers) (number : ℕ) → is_standing book.entries number ≡ true → take_back_answer book number ≡ Ok tt
standing_answer book number stands = cond-true _ _ _ stands
