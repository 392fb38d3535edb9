-- What holds of alike calls, and of the marks that shared judgements leave.
use Rattle.std.specs.Prelude.{◌<◌, ◌==◌, ◌↔◌, ◌≡◌, ℕ, IsTrue, List, Some, length, map, slice_get, slice_index}
use Rattle.core_program.specs.{ProgramRows.ProgramRows, RunLaws.calls_in, State.State, WholeTables.WholeTables}
use Rattle.core_program.specs.Run.{Call, Result, run}
use Rattle.call_tree.specs.Recording.{Recording, lasts_of}
use Rattle.answer_book.specs.Numbers.{numbers_below}
use Rattle.optimal_query.specs.{Search.marks_now, Search.new_search, Search.state_now, State.state_with}
use Rattle.answer_reuse.specs.{Classes.IsAlone, Classes.classes_of, Figures.touch_figure}
use Rattle.answer_reuse.specs.Alike.{Alike, DidTheSame, are_alike, is_alike}
use Rattle.answer_reuse.specs.Shared.{SharedCommand, accused_by, after_shared, shared_mark}

-- this holds of each two alike calls of the run of each program with whole tables
abbrev pub OfAlikeCalls : (Call → Call → Type 0) → Type 0
OfAlikeCalls P =
    (p : ProgramRows) → WholeTables p → (input : List ℕ) (budget : ℕ) (r : Result State Call)
    → run p input budget ≡ Some r
    → (j k : ℕ) (c d : Call) → slice_get (calls_in r) j ≡ Some c → slice_get (calls_in r) k ≡ Some d → Alike c d → P c d

-- alike calls ended the same way, with the same result, and had the same effect
abbrev pub AlikeDidTheSame : Type 0
AlikeDidTheSame = OfAlikeCalls DidTheSame

-- they made as many calls, all below them counted; so no call is alike to one below it
abbrev pub AlikeAreAsLarge : Type 0
AlikeAreAsLarge = OfAlikeCalls (λ c d. c.below ≡ d.below)

-- all that they did is the same, but for where in the input they began
abbrev pub AlikeTouchedTheSame : Type 0
AlikeTouchedTheSame =
    OfAlikeCalls (λ c d. map (touch_figure c.entry.place) c.log ≡ map (touch_figure d.entry.place) d.log)

-- Two calls are of one class exactly where they are alike: so the class of a call has it and all that are alike to it.
abbrev pub AlikeShareClasses : Type 0
AlikeShareClasses =
    (p : ProgramRows) → WholeTables p → (input : List ℕ) (budget : ℕ) (r : Result State Call)
    → run p input budget ≡ Some r
    → (j k : ℕ) → j < length (calls_in r) → k < length (calls_in r)
    → (slice_index (classes_of (calls_in r)) j == slice_index (classes_of (calls_in r)) k) ≡ is_alike (calls_in r) j k

-- the test of likeness says what likeness is
abbrev pub LikenessIsTested : Type 0
LikenessIsTested = (c d : Call) → IsTrue (are_alike c d) ↔ Alike c d

-- After whatever shared commands the marks are those of the definition, and the state is that of these marks. The
-- classes are any column in which call 0 is alone.
abbrev pub MarksAreShared : Type 0
MarksAreShared =
    (run : Recording) (classes : List ℕ) (commands : List SharedCommand) → length classes ≡ length run.calls
    → IsAlone classes
    → let search = after_shared classes (new_search run) commands in
    let marks = map (shared_mark classes (new_search run) commands) (numbers_below (length run.calls)) in
    (marks_now search ≡ marks) × (state_now search ≡ state_with (lasts_of run.calls) marks (accused_by marks))
