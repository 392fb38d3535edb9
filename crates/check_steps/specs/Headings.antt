-- Headings by their rows, and congruous lists of formal parameters (6.6.3.6).
use Rattle.std.specs.Prelude.{◌&&◌, ◌||◌, ℕ, Bool, None, Option, Some, false, is_none, length, nat_eq, suc, true, zero}
use Rattle.core_program.specs.Headings.{pair_fits, pair_if, same_packing}
use Rattle.core_program.specs.ProgramRows.{ProgramRows, row_at, type_at}
use Rattle.core_program.specs.declared.rows.{ItemRow.ItemRow, Mode.Mode, NameRow.NameRow, PartRow.PartRow, Row.Row}
use Rattle.core_program.specs.declared.rows.TypeRow.{TypeRow, TheVariants.Conformant}
use Rattle.check_steps.specs.declared.headings.{FormalSection.FormalSection, Signature.Signature}

-- ---- headings and their sections by rows

abbrev pub signature_in : Row → Signature
signature_in (Row.Part (PartRow.Heading name sections result)) = record { sections = sections; result = result }
signature_in r = record { sections = 0; result = None }

-- the parameters and the result of a heading; where none stands, those of a procedure without parameters
abbrev pub signature_at : ProgramRows → ℕ → Signature
signature_at p n = signature_in (row_at p n)

abbrev pub variable_type : Row → ℕ → ℕ
variable_type (Row.Name (NameRow.Variable m of' place level)) otherwise = of'
variable_type r otherwise = otherwise

abbrev pub section_in : ProgramRows → Row → Option (FormalSection × ℕ)
section_in p (Row.Item (ItemRow.Section m first count next)) =
    Some (FormalSection.Names m (variable_type (row_at p first) first) count, next)
section_in p (Row.Item (ItemRow.RoutineSection heading next)) = Some (FormalSection.Heading heading, next)
section_in p r = None

-- the section at a number and the number of the next one; none where the list ends
abbrev pub section_at : ProgramRows → ℕ → Option (FormalSection × ℕ)
section_at p at = section_in p (row_at p at)

-- ---- congruous lists

abbrev pub same_mode : Mode → Mode → Bool
same_mode Mode.Own Mode.Own = true
same_mode Mode.Value Mode.Value = true
same_mode Mode.Place Mode.Place = true
same_mode Mode.Copy Mode.Copy = true
same_mode m n = false

-- A type that is unknown is the same as any.
abbrev pub is_same_type : ProgramRows → ℕ → ℕ → Bool
is_same_type p a b = nat_eq a b || is_none (type_at p a) || is_none (type_at p b)

-- The component types of two arrays of conformant parameters that are packed or not alike and have one type of their
-- specs.
abbrev pub components_alike : ProgramRows → Option TypeRow → Option TypeRow → Option (ℕ × ℕ)
components_alike p (Some (Conformant packed index c place)) (Some (Conformant other i d at)) =
    pair_if (same_packing packed other && is_same_type p index i) c d
components_alike p s t = None

-- One type, or schemas that are equivalent, in which at most this many specs are looked at (6.6.3.6). What the bounds
-- are called and where they stand does not count.
abbrev pub types_match : ℕ → ProgramRows → ℕ → ℕ → Bool
types_match zero p a b = is_same_type p a b
types_match (suc n) p a b =
    is_same_type p a b || pair_fits (types_match n p) (components_alike p (type_at p a) (type_at p b))

abbrev pub results_match : ProgramRows → Option ℕ → Option ℕ → Bool
results_match p None None = true
results_match p (Some a) (Some b) = is_same_type p a b
results_match p a b = false

-- both procedures, or both functions with the same result type, with congruous lists
abbrev pub signatures_match : ProgramRows → (ℕ → ℕ → Bool) → Signature → Signature → Bool
signatures_match p lists g h = results_match p g.result h.result && lists g.sections h.sections

-- both by value or both `var`, with equally many names and the same type or equivalent schemas; or headings that match
abbrev pub sections_match : ProgramRows → (ℕ → ℕ → Bool) → FormalSection → FormalSection → Bool
sections_match p lists (FormalSection.Names m a count) (FormalSection.Names n b other) =
    same_mode m n && nat_eq count other && types_match (length p.rows) p a b
sections_match p lists (FormalSection.Heading g) (FormalSection.Heading h) =
    signatures_match p lists (signature_at p g) (signature_at p h)
sections_match p lists s t = false

abbrev pub both_match : Option (FormalSection × ℕ) → Option (FormalSection × ℕ)
    → (FormalSection → FormalSection → Bool) → (ℕ → ℕ → Bool) → Bool
both_match None None match rest = true
both_match (Some a) (Some b) match rest = match a.0 b.0 && rest a.1 b.1
both_match a b match rest = false

-- Two lists have equally many sections, at most this many, and these match in turn.
abbrev pub lists_match : ℕ → ProgramRows → ℕ → ℕ → Bool
lists_match zero p a b = false
lists_match (suc n) p a b =
    both_match (section_at p a) (section_at p b) (sections_match p (lists_match n p)) (lists_match n p)

-- Two headings are both procedures, or both functions with the same result type, and their lists are congruous, of at
-- most this many sections.
abbrev pub congruous : ℕ → ProgramRows → ℕ → ℕ → Bool
congruous most p g h = signatures_match p (lists_match most p) (signature_at p g) (signature_at p h)
