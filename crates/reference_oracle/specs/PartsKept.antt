-- The parts of records and variants, as the code keeps them: in lists, by the numbers of what they are parts of.
use Rattle.std.specs.Prelude.{◌≡◌, [], ℕ, List, None, Option, Some, slice_get}
use Rattle.std.specs.Global.{Vec}
use Rattle.core_program.specs.ProgramRows.{ProgramRows}
use Rattle.core_program.specs.declared.rows.{NameRow.NameRow, PartRow.PartRow, Row.Row}
use Rattle.reference_oracle.specs.Shapes.{Programs, record_parts_of}
use Rattle.reference_oracle.specs.declared.parts.{BothParts.BothParts, RecordPart.RecordPart}

-- the record or the variant of which a part stands there
abbrev pub holder_in : Row → Option ℕ
holder_in (Row.Name (NameRow.Field t offset holder)) = Some holder
holder_in (Row.Name (NameRow.Tag t offset holder variants)) = Some holder
holder_in (Row.Part (PartRow.Variants hidden offset cells values holder)) = Some holder
holder_in r = None

abbrev pub list_in : Option (Vec RecordPart) → List RecordPart
list_in None = []
list_in (Some v) = v.items

-- the list of a number
abbrev pub parts_at : List (Vec RecordPart) → (whole : ℕ) → List RecordPart
parts_at lists whole = list_in (slice_get lists whole)

-- each has its parts
abbrev pub AreParts : ProgramRows → List (Vec RecordPart) → Type 0
AreParts p lists = (whole : ℕ) → parts_at lists whole ≡ record_parts_of p whole

abbrev pub AreBothParts : Programs → BothParts → Type 0
AreBothParts ps parts = AreParts ps.subject parts.subject.items × AreParts ps.reference parts.reference.items
