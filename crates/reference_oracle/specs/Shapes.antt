-- When a type of one program and a type of another have one shape (ISO 7185, 6.4): what a variable of the one holds, a
-- variable of the other can hold, cell by cell, and it means the same there. Pointers have no shape.
use Rattle.std.specs.Prelude.{if◌then◌else◌, ◌&&◌, ◌*◌, ◌+◌, ◌==◌, ◌||◌, ◌∷◌, [], ℕ, ℤ, Bool, List, None, Option, Some}
use Rattle.std.specs.Prelude.{false, flat_map, length, min, nat_eq, nat_le, not, option_map, suc, unsigned_abs, zero}
use Rattle.std.specs.{List.list_all, List.range_with_len, Ordering.int_eq, Str.str_eq_ignore_ascii_case}
use Rattle.core_program.specs.ProgramRows.{ProgramRows, row_at, text_at}
use Rattle.core_program.specs.declared.rows.{ItemRow.ItemRow, NameRow.NameRow, PartRow.PartRow, Row.Row}
use Rattle.core_program.specs.declared.rows.{TheConstants.CHAR, TypeRow.TypeRow}
use Rattle.reference_oracle.specs.declared.parts.{RecordPart.RecordPart, TypePair.TypePair}

-- the program whose run is debugged, and the one that answers for it
pub record Programs : Type 0 where
  pub subject : ProgramRows
  pub reference : ProgramRows

abbrev pub programs : (subject reference : ProgramRows) → Programs
programs p q = record { subject = p; reference = q }

-- Two tokens spell one name. Letter case does not count (6.1.1).
abbrev pub names_agree : Programs → (a b : ℕ) → Bool
names_agree ps a b = str_eq_ignore_ascii_case (text_at ps.subject a) (text_at ps.reference b)

abbrev pub same_truth : Bool → Bool → Bool
same_truth a b = if a then b else not b

-- a type, or a variant, of the subject and one of the reference
abbrev pub pair : (a b : ℕ) → TypePair
pair a b = record { subject = a; reference = b }

-- ---- ordinal types

-- integer, Boolean and char, which have the same numbers in each program
abbrev pub is_required_type : ℕ → Bool
is_required_type t = nat_le t CHAR

-- the token that spells a constant of the enumeration at a token; numbers of tokens end with the last of 32 bits
abbrev pub constant_token : (enumeration ordinal : ℕ) → ℕ
constant_token t ordinal = min (min (t + 1) 4294967295 + min (ordinal * 2) 4294967295) 4294967295

abbrev pub constants_agree : Programs → (a b ordinal : ℕ) → Bool
constants_agree ps a b ordinal = names_agree ps (constant_token a ordinal) (constant_token b ordinal)

-- both are the same one of integer, Boolean and char; or enumerations with equally many constants, whose names agree in
-- turn
abbrev pub same_ordinals : Programs → TypePair → (greatest other : ℤ) → Bool
same_ordinals ps q greatest other =
    if is_required_type q.subject || is_required_type q.reference then q.subject == q.reference
    else if unsigned_abs greatest == unsigned_abs other
    then list_all (constants_agree ps q.subject q.reference) (range_with_len 0 (unsigned_abs greatest + 1))
    else false

-- ---- parts of records

abbrev pub position_in : Row → ℕ
position_in (Row.Part (PartRow.Variant variants position)) = position
position_in r = 0

abbrev pub choice_in : ProgramRows → Row → Option (RecordPart × ℕ)
choice_in p (Row.Item (ItemRow.Choice value chosen next)) =
    Some (RecordPart.Choice value (position_in (row_at p chosen)) chosen, next)
choice_in p r = None

-- the constant at a number of a list of them, and where the next one stands
abbrev pub choice_at : ProgramRows → (at : ℕ) → Option (RecordPart × ℕ)
choice_at p at = choice_in p (row_at p at)

abbrev pub choice_then : (more : ℕ → List RecordPart) → Option (RecordPart × ℕ) → List RecordPart
choice_then more None = []
choice_then more (Some (part, next)) = part ∷ more next

-- the constants of a variant part from one on, of which at most this many are gone through
abbrev pub choices_from : ProgramRows → (most at : ℕ) → List RecordPart
choices_from p zero at = []
choices_from p (suc most) at = choice_then (choices_from p most) (choice_at p at)

abbrev pub held_by : (holder of' : ℕ) → List RecordPart → List RecordPart
held_by holder of' parts = if holder == of' then parts else []

-- what stands at a token, as a part of what has this number
abbrev pub parts_in : ProgramRows → (of' token : ℕ) → Row → List RecordPart
parts_in p of' token (Row.Name (NameRow.Field t offset holder)) = held_by holder of' (RecordPart.Field token t ∷ [])
parts_in p of' token (Row.Name (NameRow.Tag t offset holder variants)) =
    held_by holder of' (RecordPart.Tag token t ∷ [])
parts_in p of' token (Row.Part (PartRow.Variants hidden offset cells values holder)) =
    held_by holder of' (RecordPart.Variants hidden ∷ choices_from p (length p.rows) values)
parts_in p of' token r = []

-- The parts of a record, or of a variant, in order: its fields, its tag field, and its variant part, after which its
-- constants come in order.
unfoldable pub record_parts_of : ProgramRows → (of' : ℕ) → List RecordPart
record_parts_of p of' =
    flat_map (λ token. parts_in p of' token (row_at p token)) (range_with_len 0 (length p.rows))

-- ---- what has to match

-- Two parts of records agree in all but the types or the variants in them, which these are then. A variant part has
-- none: its variants are those of its constants.
abbrev pub part_pair : Programs → RecordPart → RecordPart → Option (Option TypePair)
part_pair ps (RecordPart.Field a s) (RecordPart.Field b t) = if names_agree ps a b then Some (Some (pair s t)) else None
part_pair ps (RecordPart.Tag a s) (RecordPart.Tag b t) = if names_agree ps a b then Some (Some (pair s t)) else None
part_pair ps (RecordPart.Variants hidden) (RecordPart.Variants other) =
    if same_truth hidden other then Some None else None
part_pair ps (RecordPart.Choice value position variant) (RecordPart.Choice other at there) =
    if int_eq value other && nat_eq position at then Some (Some (pair variant there)) else None
part_pair ps x y = None

abbrev pub with_pair : Option (Option TypePair) → Option (List TypePair) → Option (List TypePair)
with_pair None qs = None
with_pair (Some None) qs = qs
with_pair (Some (Some q)) qs = option_map (λ rest. q ∷ rest) qs

-- the same field names, tags and variants; and the types and variants in them
abbrev pub record_pairs : Programs → (parts others : List RecordPart) → Option (List TypePair)
record_pairs ps [] [] = Some []
record_pairs ps (x ∷ xs) (y ∷ ys) = with_pair (part_pair ps x y) (record_pairs ps xs ys)
record_pairs ps xs ys = None

-- two records, or two variants, part by part
abbrev pub pairs_of_records : Programs → TypePair → Option (List TypePair)
pairs_of_records ps q =
    record_pairs ps (record_parts_of ps.subject q.subject) (record_parts_of ps.reference q.reference)

-- Ordinal types agree in all but the types in them, and these are then in pairs: enumerations and required types that
-- are the same, and subranges with the same bounds, of hosts.
abbrev pub ordinal_pairs : Programs → TypePair → TypeRow → TypeRow → Option (List TypePair)
ordinal_pairs ps q (TypeRow.Ordinal least greatest) (TypeRow.Ordinal other_least other) =
    if same_ordinals ps q greatest other then Some [] else None
ordinal_pairs ps q (TypeRow.Subrange s least greatest) (TypeRow.Subrange t other_least other) =
    if int_eq least other_least && int_eq greatest other then Some (pair s t ∷ []) else None
ordinal_pairs ps q s t = None

-- sets or arrays, equally packed
abbrev pub set_or_array_pairs : TypeRow → TypeRow → Option (List TypePair)
set_or_array_pairs (TypeRow.Set packed s) (TypeRow.Set other t) =
    if same_truth packed other then Some (pair s t ∷ []) else None
set_or_array_pairs (TypeRow.Array packed i s cells) (TypeRow.Array other j t others) =
    if same_truth packed other then Some (pair i j ∷ pair s t ∷ []) else None
set_or_array_pairs s t = None

-- two types: ordinal types; or arrays, records or sets, equally packed
abbrev pub type_pairs : Programs → TypePair → TypeRow → TypeRow → Option (List TypePair)
type_pairs ps q (TypeRow.Ordinal least greatest) t = ordinal_pairs ps q (TypeRow.Ordinal least greatest) t
type_pairs ps q (TypeRow.Subrange s least greatest) t = ordinal_pairs ps q (TypeRow.Subrange s least greatest) t
type_pairs ps q (TypeRow.Set packed s) t = set_or_array_pairs (TypeRow.Set packed s) t
type_pairs ps q (TypeRow.Array packed i s cells) t = set_or_array_pairs (TypeRow.Array packed i s cells) t
type_pairs ps q (TypeRow.Record packed region cells variants) (TypeRow.Record other regions others more) =
    if same_truth packed other then pairs_of_records ps q else None
type_pairs ps q s t = None

-- two types, or two variants
abbrev pub row_pairs : Programs → TypePair → Row → Row → Option (List TypePair)
row_pairs ps q (Row.Type s) (Row.Type t) = type_pairs ps q s t
row_pairs ps q (Row.Part (PartRow.Variant variants position)) (Row.Part (PartRow.Variant others at)) =
    pairs_of_records ps q
row_pairs ps q r s = None

-- the pairs that have to match so that one does; and none where it can't match, whatever they do
unfoldable pub pairs_inside : Programs → TypePair → Option (List TypePair)
pairs_inside ps q = row_pairs ps q (row_at ps.subject q.subject) (row_at ps.reference q.reference)

-- ---- shapes

abbrev pub all_match : (TypePair → Bool) → Option (List TypePair) → Bool
all_match same None = false
all_match same (Some qs) = list_all same qs

-- the two of a pair have one shape, where types stand at most this many deep in one another
abbrev pub same_within : Programs → (most : ℕ) → TypePair → Bool
same_within ps zero q = false
same_within ps (suc most) q = all_match (same_within ps most) (pairs_inside ps q)

-- A type of the subject and one of the reference, by their numbers, have one shape. Types stand no deeper in one
-- another than there are rows.
unfoldable pub same_shape : Programs → (a b : ℕ) → Bool
same_shape ps a b = same_within ps (length ps.subject.rows) (pair a b)
