-- The calls of a run in classes of alike ones, as a column: the least call that is alike to each.
use Rattle.std.specs.Prelude.{if◌then◌else◌, ◌&&◌, ◌<◌, ◌==◌, ◌≡◌, ◌≤◌, ℕ, Err, List, None, Ok, Option, Result, Some}
use Rattle.std.specs.Prelude.{filter, find, length, map, nat_le, nat_lt, slice_get, slice_index, sum_by}
use Rattle.core_program.specs.Run.{Call}
use Rattle.call_tree.specs.declared.records.Call as table
use Rattle.answer_book.specs.Numbers.{numbers_below}
use Rattle.answer_reuse.specs.{Alike.is_alike, Keys.touches_made, declared.faults.ClassFault.ClassFault}
use Rattle.answer_reuse.specs.declared.faults.ClassFault.TheVariants as fault

-- the least call that is alike to a call of this number
abbrev pub or_itself : ℕ → Option ℕ → ℕ
or_itself call None = call
or_itself call (Some least) = least

unfoldable pub least_alike : List Call → ℕ → ℕ
least_alike calls call = or_itself call (find (λ other. is_alike calls other call) (numbers_below (length calls)))

-- the classes of calls
abbrev pub classes_of : List Call → List ℕ
classes_of calls = map (least_alike calls) (numbers_below (length calls))

-- how many entries of the log the calls have between them, each with those of the calls below it, and how many may be
-- compared
abbrev pub touches_between : List Call → ℕ
touches_between calls = sum_by (λ c. length c.log) calls

-- the same by the rows of the calls
abbrev pub rows_between : List table.Call → ℕ
rows_between rows = sum_by touches_made rows

abbrev pub most_touches : ℕ
most_touches = 50000000

-- the calls are in their classes, or there is too much to compare
abbrev pub IsClassed : List Call → Result (List ℕ) ClassFault → Type 0
IsClassed calls (Ok classes) = (touches_between calls ≤ most_touches) × (classes ≡ classes_of calls)
IsClassed calls (Err (fault.TooMany touches)) = (touches ≡ touches_between calls) × (most_touches < touches)
IsClassed calls (Err fault.Memory) = Unit {0}

-- the classes, if there is not too much to compare
abbrev pub compared : List Call → Option (List ℕ)
compared calls = if nat_le (touches_between calls) most_touches then Some (classes_of calls) else None

-- call 0 is in a class of its own
abbrev pub IsAlone : List ℕ → Type 0
IsAlone classes = (call : ℕ) → call < length classes → slice_index classes call ≡ slice_index classes 0 → call ≡ 0

-- this holds of each two calls of one class
abbrev pub AreClasses : (Call → Call → Type 0) → List Call → List ℕ → Type 0
AreClasses P calls classes =
    (j k : ℕ) (c d : Call) → slice_get calls j ≡ Some c → slice_get calls k ≡ Some d
    → slice_index classes j ≡ slice_index classes k → P c d

-- the calls of the class with this least call, rising; those of one class with a call; how many they are; and the
-- next one after it
abbrev pub calls_of : List ℕ → (least : ℕ) → List ℕ
calls_of classes least = filter (λ other. slice_index classes other == least) (numbers_below (length classes))

abbrev pub class_of : List ℕ → ℕ → List ℕ
class_of classes call = calls_of classes (slice_index classes call)

abbrev pub class_size : List ℕ → ℕ → ℕ
class_size classes call = length (class_of classes call)

abbrev pub next_in : List ℕ → ℕ → Option ℕ
next_in classes call = find (λ other. nat_lt call other && (slice_index classes other == slice_index classes call))
    (numbers_below (length classes))
