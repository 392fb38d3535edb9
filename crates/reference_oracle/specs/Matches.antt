-- Which variables of two programs match, and where the cells of one are in the other.
use Rattle.std.specs.Prelude.{if◌then◌else◌, ◌&&◌, ◌+◌, ◌-◌, ◌==◌, ◌∷◌, [], ℕ, Bool, List, None, Option, Some}
use Rattle.std.specs.Prelude.{filter_map, find, flat_map, length, map, nat_le, nat_lt}
use Rattle.std.specs.List.{range_with_len}
use Rattle.core_program.specs.ProgramRows.{ProgramRows, row_at, size_of}
use Rattle.core_program.specs.declared.rows.{Mode.Mode, NameRow.NameRow, Row.Row}
use Rattle.reference_oracle.specs.Shapes.{Programs, names_agree, same_shape}
use Rattle.reference_oracle.specs.declared.matches.{BlockVariable.BlockVariable, Match.Match}

-- No block is around the program block. A variable's place in its frame is its address, since that begins at 0.
abbrev pub block_variable_in : (token : ℕ) → Row → Option BlockVariable
block_variable_in token (Row.Name (NameRow.Variable Mode.Own of' place level)) =
    if level == 0 then Some (record { token = token; kind = of'; address = place }) else None
block_variable_in token r = None

-- the variables of the program block, in order
unfoldable pub block_variables : ProgramRows → List BlockVariable
block_variables p = filter_map (λ token. block_variable_in token (row_at p token)) (range_with_len 0 (length p.rows))

-- the variable of the reference's program block with the name of one of the subject's; there are no two of a name
abbrev pub namesake : Programs → BlockVariable → Option BlockVariable
namesake ps v = find (λ w. names_agree ps v.token w.token) (block_variables ps.reference)

-- they match if they are of one shape
abbrev pub match_with : Programs → BlockVariable → Option BlockVariable → Option Match
match_with ps v None = None
match_with ps v (Some w) = if same_shape ps v.kind w.kind then Some (record {
  subject = v.address;
  reference = w.address;
  cells = size_of ps.subject v.kind;
}) else None

-- each variable of the subject's program block that matches the reference's of the same name and shape
unfoldable pub matches : Programs → List Match
matches ps = filter_map (λ v. match_with ps v (namesake ps v)) (block_variables ps.subject)

-- an address is one of so many, from the first on
abbrev pub lies_among : (first cells address : ℕ) → Bool
lies_among first cells address = nat_le first address && nat_lt address (first + cells)

-- where the cell of a matching variable of the subject is in the reference, by its address; there is no answer where it
-- is a cell of no matching variable
abbrev pub in_reference : List Match → (address : ℕ) → Option ℕ
in_reference [] address = None
in_reference (m ∷ ms) address =
    if lies_among m.subject m.cells address then Some (m.reference + (address - m.subject)) else in_reference ms address

-- the same match, seen from the reference
abbrev pub turned : Match → Match
turned m = record { subject = m.reference; reference = m.subject; cells = m.cells }

-- and the other way: where the cell of a matching variable of the reference is in the subject
abbrev pub in_subject : List Match → (address : ℕ) → Option ℕ
in_subject ms address = in_reference (map turned ms) address

-- the addresses of the subject's matching variables
abbrev pub common_addresses : List Match → List ℕ
common_addresses ms = flat_map (λ m. range_with_len m.subject m.cells) ms
