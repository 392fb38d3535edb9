-- How a book is kept: beside the entries the last judgement on each call, which routines are trusted, and the links
-- among the entries on each call, of trust in each routine, and among all.
use Rattle.std.specs.Prelude.{◌<◌, ◌≡◌, ◌≤◌, All, Bool, List, Option, length, map}
use Rattle.call_tree.specs.Recording.{routines_of}
use Rattle.answer_book.specs.{Answers.Answers, Entries.standing_answers, InRange.IsInRange, Links.AreLinkedBy}
use Rattle.answer_book.specs.{Marks.is_trusted, Marks.last_judgement, Numbers.numbers_below}
use Rattle.answer_book.specs.declared.{book.Book.TheInside.Inside, entries.Judgement.Judgement}
use Rattle.answer_book.specs.declared.entry_links.Subject.TheVariants.{Any, Call, Routine}

abbrev pub answers_of : Inside → Answers
answers_of kept = record {
  routine = routines_of kept.calls.value.calls;
  routines = kept.calls.value.routines;
  entries = kept.entries;
}

-- each call is of a routine, the entries name calls and routines, and the two columns are those of the answers
-- that stand
pub record AreKept (book : Answers) (judged : List (Option Judgement)) (trusted : List Bool) : Type 0 where
  pub few : length book.routine ≤ 500000
  pub known : All (λ routine. routine < book.routines) book.routine
  pub named : All (λ entry. IsInRange (length book.routine) book.routines entry.what) book.entries
  pub judged_calls : judged ≡ map (last_judgement (standing_answers book.entries)) (numbers_below (length book.routine))
  pub trusted_routines : trusted ≡ map (is_trusted (standing_answers book.entries)) (numbers_below book.routines)

pub record IsKept (kept : Inside) : Type 0 where
  pub columns : AreKept (answers_of kept) kept.judged kept.trusted.items
  pub by_call : AreLinkedBy Call (length (answers_of kept).routine) kept.entries kept.by_call
  pub by_routine : AreLinkedBy Routine (answers_of kept).routines kept.entries kept.by_routine
  pub all : AreLinkedBy Any 1 kept.entries kept.all
