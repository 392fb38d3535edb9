-- Headings that were compared, and which rows tell of them.
use Rattle.std.specs.Prelude.{◌&&◌, ◌≡◌, [], ℕ, Bool, List, Some, map, nat_eq}
use Rattle.std.specs.Map.{lookup}
use Rattle.core_program.specs.ProgramRows.{ProgramRows}
use Rattle.core_program.specs.declared.rows.{ItemRow.ItemRow, NameRow.NameRow, PartRow.PartRow, Row.Row}
use Rattle.check_steps.specs.Headings.{congruous}

-- a row that tells of a type, a variable, a heading or a section of parameters; of others nothing is seen
abbrev pub seen : Row → Row
seen (Row.Type t) = Row.Type t
seen (Row.Name (NameRow.Variable m of' place level)) = Row.Name (NameRow.Variable m of' place level)
seen (Row.Part (PartRow.Heading name sections result)) = Row.Part (PartRow.Heading name sections result)
seen (Row.Item (ItemRow.Section m first count next)) = Row.Item (ItemRow.Section m first count next)
seen (Row.Item (ItemRow.RoutineSection heading next)) = Row.Item (ItemRow.RoutineSection heading next)
seen r = Row.Nothing

-- what of a program tells which headings are congruous
abbrev pub seen_of : ProgramRows → ProgramRows
seen_of p = record { rows = map seen p.rows; routines = []; texts = [] }

abbrev pub same_pair : ℕ × ℕ → ℕ × ℕ → Bool
same_pair a b = nat_eq a.0 b.0 && nat_eq a.1 b.1

-- Each answer says whether two headings are congruous, with lists of at most this many sections.
unfoldable pub AreAnswers : ℕ → ProgramRows → List ((ℕ × ℕ) × Bool) → Type 0
AreAnswers most p answers = (pair : ℕ × ℕ) (answer : Bool) → lookup (same_pair pair) answers ≡ Some answer
    → answer ≡ congruous most (seen_of p) pair.0 pair.1
