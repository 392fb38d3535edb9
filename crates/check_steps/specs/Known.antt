-- What the tables of a check say.
use Rattle.std.specs.Prelude.{◌&&◌, ◌++◌, ◌-◌, ◌∷◌, [], ℕ, ℤ, Bool, List, None, Option, Some, length, nat_eq, slice_get}
use Rattle.std.specs.Prelude.{slice_set, suc, take, unwrap_or, zero}
use Rattle.std.specs.{List.list_any, Ordering.int_eq}
use Rattle.indexmap.specs.IndexSet.{insert_key}
use Rattle.core_program.specs.ProgramRows.{ProgramRows}
use Rattle.core_program.specs.ProgramRows as program
use Rattle.core_program.specs.declared.{program.Routine.Routine, rows.Row.Row, rows.TypeRow.TypeRow}
use Rattle.check_steps.specs.Regions.{RegionRows, declared_in, defined_in, fresh_region, or_else, region_at}
use Rattle.check_steps.specs.Threats.{first_threat}
use Rattle.check_steps.specs.declared.regions.{Definition.Definition, Found.Found, Frame.Frame, Span.Span}
use Rattle.check_steps.specs.declared.words.{Spelled.Spelled, SpelledToken.SpelledToken}

pub record Known : Type 0 where
  -- the spellings of names, each once; a name's number is its place here
  pub names : List (List ℕ)
  -- what each token spells
  pub words : List SpelledToken
  -- the program as far as it is known
  pub program : ProgramRows
  pub regions : List RegionRows
  pub frames : List Frame
  -- the control variables of the for statements around, the innermost last
  pub controls : List ℕ
  -- by token, the variable of a block around that a routine threatens there, by the token that defines it
  pub threats : List (Option ℕ)
  -- the block whose statements are checked
  pub block : Span
  -- the values that choose in case statements and variant parts, each after the number of its list
  pub choices : List (ℕ × ℤ)

-- ---- words

abbrev pub word_at : Known → ℕ → SpelledToken
word_at k token = unwrap_or (slice_get k.words token) (record { spelled = Spelled.Other; line = 0 })

abbrev pub spelled_at : Known → ℕ → Spelled
spelled_at k token = (word_at k token).spelled

-- the line on which a token stands
abbrev pub line_at : Known → ℕ → ℕ
line_at k token = (word_at k token).line

abbrev pub name_in : Spelled → ℕ
name_in (Spelled.Name name) = name
name_in s = 0

-- the number of the name that a token spells
abbrev pub name_at : Known → ℕ → ℕ
name_at k token = name_in (spelled_at k token)

abbrev pub label_in : Spelled → ℕ
label_in (Spelled.Number value) = value
label_in s = 0

-- the value of a label, by which labels are told apart
abbrev pub label_at : Known → ℕ → ℕ
label_at k token = label_in (spelled_at k token)

-- ---- rows

abbrev pub row_at : Known → ℕ → Row
row_at k number = program.row_at k.program number

-- the type of a number, and none where a broken rule leaves it unknown
abbrev pub type_at : Known → ℕ → Option TypeRow
type_at k number = program.type_at k.program number

abbrev pub with_row : Known → ℕ → Row → Known
with_row k number r = record k { program = program.with_row k.program number r }

abbrev pub with_routine : Known → ℕ → Routine → Known
with_routine k number r = record k { program = program.with_routine k.program number r }

-- one more routine
abbrev pub and_routine : Known → Routine → Known
and_routine k r = record k { program = record k.program { routines = k.program.routines ++ r ∷ [] } }

-- ---- regions and frames

-- one more frame
abbrev pub and_frame : Known → Frame → Known
and_frame k f = record k { frames = k.frames ++ f ∷ [] }

-- one more region with its own frame
abbrev pub and_region : Known → ℕ → Frame → Known
and_region k token f = record k {
  regions = k.regions ++ fresh_region token (length k.frames) ∷ [];
  frames = k.frames ++ f ∷ [];
}

-- one more definition at the end of a region
abbrev pub and_definition : Known → ℕ → ℕ → Definition → Known
and_definition k r name d = let region = region_at k.regions r in
    record k { regions = slice_set k.regions r (record region { names = region.names ++ (name, d) ∷ [] }) }

-- one more label at the end of a region
abbrev pub and_label : Known → ℕ → ℕ → ℕ → Known
and_label k r value token = let region = region_at k.regions r in
    record k { regions = slice_set k.regions r (record region { labels = region.labels ++ (value, token) ∷ [] }) }

abbrev pub frame_at : Known → ℕ → Frame
frame_at k n = unwrap_or (slice_get k.frames n) (record { region = 0; outer = None; level = 0; withs = 0 })

abbrev pub found_with : ℕ → Option Definition → Option Found
found_with frame None = None
found_with frame (Some d) = Some (record { definition = d; frame = frame })

-- what the region of a frame itself defines a name as
abbrev pub found_in : Known → ℕ → ℕ → Option Found
found_in k frame name = found_with frame (defined_in k.regions (frame_at k frame).region name)

-- the definition in the closest of at most this many frames outward
abbrev pub find_from : ℕ → Known → Option ℕ → ℕ → Option Found
find_from n k None name = None
find_from zero k (Some frame) name = None
find_from (suc n) k (Some frame) name = or_else (found_in k frame name) (find_from n k (frame_at k frame).outer name)

-- The definition in the closest region around that defines the name. No way outward has more frames than there are.
abbrev pub find : Known → ℕ → ℕ → Option Found
find k frame name = find_from (length k.frames) k (Some frame) name

-- the same of labels
abbrev pub find_label_from : ℕ → Known → Option ℕ → ℕ → Option ℕ
find_label_from n k None value = None
find_label_from zero k (Some frame) value = None
find_label_from (suc n) k (Some frame) value = or_else (declared_in k.regions (frame_at k frame).region value)
    (find_label_from n k (frame_at k frame).outer value)

-- the token that declares a label of this value in the closest block around that does
abbrev pub find_label : Known → ℕ → ℕ → Option ℕ
find_label k frame value = find_label_from (length k.frames) k (Some frame) value

-- ---- case constants (6.8.3.5, 6.4.3.3)

abbrev pub same_choice : ℕ × ℤ → ℕ × ℤ → Bool
same_choice a b = nat_eq a.0 b.0 && int_eq a.1 b.1

-- one more value of a list
abbrev pub and_choice : Known → ℕ → ℤ → Known
and_choice k list value = record k { choices = insert_key same_choice k.choices (list, value) }

-- whether a value is in a list
abbrev pub is_chosen : Known → ℕ → ℤ → Bool
is_chosen k list value = list_any (same_choice (list, value)) k.choices

-- ---- control variables and their threats (6.8.3.9)

-- one more for statement around
abbrev pub and_control : Known → ℕ → Known
and_control k variable = record k { controls = k.controls ++ variable ∷ [] }

-- the innermost for statement is left
abbrev pub without_control : Known → Known
without_control k = record k { controls = take (length k.controls - 1) k.controls }

abbrev pub is_control : Known → ℕ → Bool
is_control k variable = list_any (λ c. nat_eq c variable) k.controls

-- a routine threatens a variable at a token
abbrev pub and_threat : Known → ℕ → ℕ → Known
and_threat k variable token = record k { threats = slice_set k.threats token (Some variable) }

-- The first token of the block before its own statements at which a variable is threatened: there only the block's
-- routines have statements.
abbrev pub threat_of : Known → ℕ → Option ℕ
threat_of k variable = first_threat (k.block.statements - k.block.first) k.threats variable k.block.first

-- the block whose statements are checked from now on
abbrev pub in_block : Known → Span → Known
in_block k s = record k { block = s }
