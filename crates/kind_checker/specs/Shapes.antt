-- What of a type counts when two are held against each other (6.4.5, 6.4.6).
use Rattle.std.specs.Prelude.{if◌then◌else◌, ◌&&◌, ℕ, Bool, None, Option, Some, false, is_none, nat_eq, pos, true}
use Rattle.std.specs.{Int.RustNames.int_le, Int.RustNames.unsigned_abs, Ordering.int_eq}
use Rattle.core_program.specs.declared.rows.TypeRow.{TypeRow}
use Rattle.check_steps.specs.Headings as headings
use Rattle.check_steps.specs.Known.{Known, type_at}
use Rattle.kind_checker.specs.Sizes.{host_of}
use Rattle.kind_checker.specs.declared.shapes.{ExpressionType.ExpressionType, Shape.Shape}
use Rattle.kind_checker.specs.declared.shapes.Packing.{Packing, TheVariants.Packed, TheVariants.Unpacked}

-- ---- the shape of a type

abbrev pub packing_of : Bool → Packing
packing_of packed = if packed then Packed else Unpacked

-- the host of a set's base type, if that is known
abbrev pub known_host : Known → ℕ → Option ℕ
known_host k base = if is_none (type_at k base) then None else Some (host_of k base)

-- The index type of a string type is a subrange of integer, from 1 to at least 2.
abbrev pub length_from : Option TypeRow → Option ℕ
length_from (Some (TypeRow.Subrange host least greatest)) =
    if nat_eq host 0 && int_eq least (pos 1) && int_le (pos 2) greatest then Some (unsigned_abs greatest) else None
length_from r = None

-- how many characters a string type has: `packed array [1..n] of char`, the component type being char itself (6.4.3.2)
abbrev pub string_length : Known → Bool → ℕ → ℕ → Option ℕ
string_length k packed index component = if packed && nat_eq component 2 then length_from (type_at k index) else None

abbrev pub text_or : ℕ → Option ℕ → Shape
text_or t (Some length) = Shape.Text length
text_or t None = Shape.Other t

abbrev pub shape_in : Known → ℕ → Option TypeRow → Shape
shape_in k t None = Shape.Unknown
shape_in k t (Some (TypeRow.Ordinal least greatest)) = Shape.Ordinal t
shape_in k t (Some (TypeRow.Subrange host least greatest)) = Shape.Ordinal host
shape_in k t (Some (TypeRow.Set packed base)) = Shape.Set (known_host k base) (packing_of packed)
shape_in k t (Some (TypeRow.Pointer domain)) = Shape.Pointer t
shape_in k t (Some (TypeRow.Array packed index component cells)) = text_or t (string_length k packed index component)
-- the array of a conformant parameter is no string, and agrees with no other type
shape_in k t (Some (TypeRow.Conformant packed index component place)) = Shape.Other t
shape_in k t (Some (TypeRow.Record packed region cells variants)) = Shape.Other t

abbrev pub shape_of : Known → ExpressionType → Shape
shape_of k ExpressionType.Unknown = Shape.Unknown
shape_of k (ExpressionType.Of t) = shape_in k t (type_at k t)
shape_of k ExpressionType.Nil = Shape.Nil
shape_of k (ExpressionType.Set host packing) = Shape.Set host packing
shape_of k (ExpressionType.Text length) = Shape.Text length

-- ---- compatible types

-- A set without members and a set of unknown base agree with all sets.
abbrev pub hosts_agree : Option ℕ → Option ℕ → Bool
hosts_agree (Some a) (Some b) = nat_eq a b
hosts_agree a b = true

-- A set constructor agrees with packed and with unpacked sets.
abbrev pub packings_agree : Packing → Packing → Bool
packings_agree Packed Unpacked = false
packings_agree Unpacked Packed = false
packings_agree p q = true

-- Two types are compatible: ordinal types of one host, sets of compatible base types that are both packed or neither,
-- string types of equal length, or the same type (6.4.5); and nil and a pointer type. A type that is unknown breaks no
-- further rule.
abbrev pub agree : Shape → Shape → Bool
agree Shape.Unknown s = true
agree s Shape.Unknown = true
agree (Shape.Ordinal a) (Shape.Ordinal b) = nat_eq a b
agree (Shape.Set a p) (Shape.Set b q) = hosts_agree a b && packings_agree p q
agree (Shape.Text m) (Shape.Text n) = nat_eq m n
agree (Shape.Pointer a) (Shape.Pointer b) = nat_eq a b
agree (Shape.Pointer a) Shape.Nil = true
agree Shape.Nil (Shape.Pointer b) = true
agree Shape.Nil Shape.Nil = true
agree (Shape.Other a) (Shape.Other b) = nat_eq a b
agree s t = false

-- A value is assignment-compatible with a type if the types are the same, or compatible ordinals, sets or strings, or
-- the type is a pointer and the value is nil (6.4.6). Whether the value lies within it is tested when the program runs.
abbrev pub is_assignable : Known → ℕ → ExpressionType → Bool
is_assignable k t value = agree (shape_of k (ExpressionType.Of t)) (shape_of k value)

-- A type that is unknown is the same as any.
abbrev pub is_same_type : Known → ℕ → ℕ → Bool
is_same_type k a b = headings.is_same_type k.program a b
