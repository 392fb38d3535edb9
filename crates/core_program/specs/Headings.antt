-- Headings by their rows, and which are congruous (6.6.3.6).
use Rattle.std.specs.Prelude.{if◌then◌else◌, ◌&&◌, ◌||◌, ℕ, Bool, None, Option, Some, false, length, nat_eq, suc, true}
use Rattle.std.specs.Prelude.{zero}
use Rattle.core_program.specs.ProgramRows.{ProgramRows, routine_at, row_at, type_at}
use Rattle.core_program.specs.declared.headings.{FormalSection.FormalSection, Signature.Signature}
use Rattle.core_program.specs.declared.program.Routine.{Routine}
use Rattle.core_program.specs.declared.rows.{ItemRow.ItemRow, Mode.Mode, NameRow.NameRow, PartRow.PartRow, Row.Row}
use Rattle.core_program.specs.declared.rows.TypeRow.{TypeRow, TheVariants.Conformant}

-- ---- headings and their sections by rows

abbrev pub signature_in : Row → Option Signature
signature_in (Row.Part (PartRow.Heading name sections result)) = Some (record { sections = sections; result = result })
signature_in r = None

-- the parameters and the result of a heading, by its number
abbrev pub signature_at : ProgramRows → ℕ → Option Signature
signature_at p heading = signature_in (row_at p heading)

-- the number of the heading of a routine parameter, by the row of its name
abbrev pub heading_in : Row → Option ℕ
heading_in (Row.Name (NameRow.RoutineFormal place level heading)) = Some heading
heading_in r = None

abbrev pub variable_type : Row → ℕ → ℕ
variable_type (Row.Name (NameRow.Variable m of' place level)) otherwise = of'
variable_type r otherwise = otherwise

abbrev pub section_in : ProgramRows → Row → Option (FormalSection × ℕ)
section_in p (Row.Item (ItemRow.Section m first count next)) =
    Some (FormalSection.Names m (variable_type (row_at p first) first) count, next)
section_in p (Row.Item (ItemRow.RoutineSection heading next)) = Some (FormalSection.Heading heading, next)
section_in p r = None

-- the section at a number and the number of the next one; none where the list ends
abbrev pub section_at : ProgramRows → ℕ → Option (FormalSection × ℕ)
section_at p at = section_in p (row_at p at)

-- ---- equivalent schemas

abbrev pub same_packing : Bool → Bool → Bool
same_packing true true = true
same_packing false false = true
same_packing p q = false

abbrev pub pair_if : Bool → ℕ → ℕ → Option (ℕ × ℕ)
pair_if fits a b = if fits then Some (a, b) else None

abbrev pub pair_fits : (ℕ → ℕ → Bool) → Option (ℕ × ℕ) → Bool
pair_fits fits None = false
pair_fits fits (Some q) = fits q.0 q.1

-- The component types of two arrays of conformant parameters that are packed or not alike and have one type of their
-- specs.
abbrev pub components_alike : Option TypeRow → Option TypeRow → Option (ℕ × ℕ)
components_alike (Some (Conformant packed index c place)) (Some (Conformant other i d at)) =
    pair_if (same_packing packed other && nat_eq index i) c d
components_alike s t = None

-- One type, or schemas that are equivalent, in which at most this many specs are looked at. What the bounds are called
-- and where they stand does not count.
abbrev pub types_match : ℕ → ProgramRows → ℕ → ℕ → Bool
types_match zero p a b = nat_eq a b
types_match (suc n) p a b = nat_eq a b || pair_fits (types_match n p) (components_alike (type_at p a) (type_at p b))

-- ---- congruous lists

abbrev pub same_mode : Mode → Mode → Bool
same_mode Mode.Own Mode.Own = true
same_mode Mode.Value Mode.Value = true
same_mode Mode.Place Mode.Place = true
same_mode Mode.Copy Mode.Copy = true
same_mode m n = false

abbrev pub same_result : Option ℕ → Option ℕ → Bool
same_result None None = true
same_result (Some s) (Some t) = nat_eq s t
same_result s t = false

-- both are procedures, or both functions with the same result type, and their lists match
abbrev pub signatures_match : (lists : ℕ → ℕ → Bool) → Option Signature → Option Signature → Bool
signatures_match lists (Some g) (Some h) = same_result g.result h.result && lists g.sections h.sections
signatures_match lists g h = false

-- both by value or both `var`, with equally many names and the same type or equivalent schemas; or headings that match
abbrev pub sections_match : ProgramRows → (lists : ℕ → ℕ → Bool) → FormalSection → FormalSection → Bool
sections_match p lists (FormalSection.Names m a count) (FormalSection.Names n b other) =
    same_mode m n && nat_eq count other && types_match (length p.rows) p a b
sections_match p lists (FormalSection.Heading g) (FormalSection.Heading h) =
    signatures_match lists (signature_at p g) (signature_at p h)
sections_match p lists s t = false

abbrev pub both_match : Option (FormalSection × ℕ) → Option (FormalSection × ℕ)
    → (FormalSection → FormalSection → Bool) → (ℕ → ℕ → Bool) → Bool
both_match None None match rest = true
both_match (Some a) (Some b) match rest = match a.0 b.0 && rest a.1 b.1
both_match a b match rest = false

-- Two lists have equally many sections, at most this many, and these match in turn.
abbrev pub lists_match : ℕ → ProgramRows → ℕ → ℕ → Bool
lists_match zero p a b = false
lists_match (suc n) p a b =
    both_match (section_at p a) (section_at p b) (sections_match p (lists_match n p)) (lists_match n p)

-- No list has more sections than there are rows.
abbrev pub congruous : ProgramRows → ℕ → ℕ → Bool
congruous p g h = signatures_match (lists_match (length p.rows) p) (signature_at p g) (signature_at p h)

abbrev pub is_congruous : ProgramRows → (heading : ℕ) → Option Routine → Bool
is_congruous p heading None = false
is_congruous p heading (Some r) = congruous p heading r.heading

-- Whether a routine may be an actual of a routine parameter with this heading. The program block has no heading, and
-- may not.
abbrev pub may_stand_for : ProgramRows → (heading routine : ℕ) → Bool
may_stand_for p heading routine = is_congruous p heading (routine_at p routine)
