-- Which record has a field or a tag, and where (ISO 7185, 6.4.3.3).
use Rattle.std.specs.Prelude.{if◌then◌else◌, ◌&&◌, ◌-◌, ◌==◌, ◌∷◌, [], ℕ, Bool, List, None, Option, Some, false}
use Rattle.std.specs.Prelude.{flat_map, nat_lt, suc, true, zero}
use Rattle.std.specs.List.{range_with_len}
use Rattle.core_program.specs.ProgramRows.{ProgramRows, row_at}
use Rattle.core_program.specs.declared.rows.{NameRow.NameRow, PartRow.PartRow, Row.Row, TypeRow.TypeRow}
use Rattle.cell_names.specs.Layouts.{part}
use Rattle.cell_names.specs.declared.{places.PlacedPart.PlacedPart, records.Component.Component, records.Placed.Placed}

-- a field, a tag field or a hidden tag: where it begins, and the record or the variant that holds it
abbrev pub component_in : Row → Option Component
component_in (Row.Name (NameRow.Field of' offset holder)) = Some (record { offset = offset; holder = holder })
component_in (Row.Name (NameRow.Tag of' offset holder variants)) = Some (record { offset = offset; holder = holder })
component_in (Row.Part (PartRow.Variants true offset cells values holder)) =
    Some (record { offset = offset; holder = holder })
component_in r = None

abbrev pub is_record : Row → Bool
is_record (Row.Type (TypeRow.Record packed region cells variants)) = true
is_record r = false

abbrev pub part_holder : Row → Option ℕ
part_holder (Row.Part (PartRow.Variants hidden offset cells values holder)) = Some holder
part_holder r = None

-- the record or the variant that holds the variant part of a variant
abbrev pub holder_around : ProgramRows → Row → Option ℕ
holder_around p (Row.Part (PartRow.Variant variants position)) = part_holder (row_at p variants)
holder_around p r = None

abbrev pub further_holder : (go : ℕ → Option ℕ) → Option ℕ → Option ℕ
further_holder go None = None
further_holder go (Some holder) = go holder

-- the record that a holder is, or that has it in its variants, of which at most this many are gone out of
abbrev pub holding_record : ProgramRows → (most : ℕ) → (holder : ℕ) → Option ℕ
holding_record p zero holder = None
holding_record p (suc most) holder =
    if is_record (row_at p holder) then Some holder
    else further_holder (holding_record p most) (holder_around p (row_at p holder))

-- no source has more variant parts in one another
unfoldable pub most_nesting : ℕ
most_nesting = 200

abbrev pub placed_in : (token : ℕ) → Component → Option ℕ → Option Placed
placed_in token c None = None
placed_in token c (Some record') = Some (record { owner = record'; part = part c.offset token })

abbrev pub placed_by : ProgramRows → (token : ℕ) → Option Component → Option Placed
placed_by p token None = None
placed_by p token (Some c) = placed_in token c (holding_record p most_nesting c.holder)

-- the record to which the name or the word at a token belongs, and where its cells begin there
abbrev pub placed_at : ProgramRows → (token : ℕ) → Option Placed
placed_at p token = placed_by p token (component_in (row_at p token))

-- what of that is one record's, which is one of this many tokens
abbrev pub within : (tokens owner : ℕ) → Option Placed → List PlacedPart
within tokens owner None = []
within tokens owner (Some x) = if (x.owner == owner) && nat_lt owner tokens then x.part ∷ [] else []

-- the fields and tags of a record that stand at a token or after it, of this many tokens, in order
unfoldable pub record_parts_from : ProgramRows → (tokens owner from : ℕ) → List PlacedPart
record_parts_from p tokens owner from =
    flat_map (λ token. within tokens owner (placed_at p token)) (range_with_len from (tokens - from))

-- the fields and tags of a record, in order
abbrev pub record_parts : ProgramRows → (tokens owner : ℕ) → List PlacedPart
record_parts p tokens owner = record_parts_from p tokens owner 0
