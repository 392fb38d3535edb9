-- Values by their types (ISO 7185, 6.4): what is shown of them.
use Rattle.std.specs.Prelude.{if◌then◌else◌, ◌&&◌, ◌*◌, ◌++◌, ◌+◌, ◌-◌, ◌==◌, ◌∷◌, [], ℕ, ℤ, Bool, List, None, Option}
use Rattle.std.specs.Prelude.{Some, codes, decimal, false, filter, flat_map, int_le, min, negsuc, pos, true}
use Rattle.std.specs.{Fmt.signed_decimal, List.range_with_len}
use Rattle.cell_value.specs.{Sets.has, declared.values.SetBits.SetBits, declared.values.Value.Value}
use Rattle.core_program.specs.ProgramRows.{ProgramRows, text_at, type_at}
use Rattle.core_program.specs.declared.rows.TheConstants.{BOOLEAN, CHAR, INTEGER}
use Rattle.core_program.specs.declared.rows.TypeRow.{TypeRow}
use Rattle.cell_names.specs.{Pieces.shown_char, declared.values.Bounds.Bounds}

-- the text of a cell to which nothing was assigned, or that holds no value of its type
abbrev pub unknown : List ℕ
unknown = codes "?"

abbrev pub bounds_in : (of' : ℕ) → Option TypeRow → Option Bounds
bounds_in of' (Some (TypeRow.Ordinal least greatest)) = Some (record { host = of'; least = least; greatest = greatest })
bounds_in of' (Some (TypeRow.Subrange host least greatest)) =
    Some (record { host = host; least = least; greatest = greatest })
bounds_in of' t = None

-- the values of an ordinal type: those of its host type from one ordinal to another
abbrev pub bounds_of : ProgramRows → ℕ → Option Bounds
bounds_of p of' = bounds_in of' (type_at p of')

-- the token that spells the constant of an ordinal of an enumeration; numbers of tokens end with the last of 32 bits
abbrev pub constant_token : (host ordinal : ℕ) → ℕ
constant_token host ordinal = min (min (host + 1) 4294967295 + min (ordinal * 2) 4294967295) 4294967295

-- the constant of an ordinal of a type other than integer: of an enumeration as its definition spells it
abbrev pub constant_text : ProgramRows → (host ordinal : ℕ) → List ℕ
constant_text p host ordinal =
    if host == BOOLEAN then if ordinal == 0 then codes "false" else codes "true"
    else if host == CHAR then shown_char ordinal
    else text_at p (constant_token host ordinal)

abbrev pub ordered_text : ProgramRows → (host : ℕ) → ℤ → List ℕ
ordered_text p host (pos ordinal) = constant_text p host ordinal
ordered_text p host (negsuc below) = unknown

-- the value of an ordinal of a host type: of integer it is the number itself
abbrev pub host_text : ProgramRows → (host : ℕ) → ℤ → List ℕ
host_text p host ordinal = if host == INTEGER then signed_decimal ordinal else ordered_text p host ordinal

abbrev pub within_bounds : ProgramRows → ℤ → Option Bounds → List ℕ
within_bounds p ordinal None = unknown
within_bounds p ordinal (Some b) =
    if int_le b.least ordinal && int_le ordinal b.greatest then host_text p b.host ordinal else unknown

-- the value of an ordinal of an ordinal type
abbrev pub ordinal_text : ProgramRows → (of' : ℕ) → ℤ → List ℕ
ordinal_text p of' ordinal = within_bounds p ordinal (bounds_of p of')

-- a member of a set with this base type, after those before it
abbrev pub member_text : ProgramRows → (base : ℕ) → (first : Bool) → (ordinal : ℕ) → List ℕ
member_text p base true ordinal = ordinal_text p base (pos ordinal)
member_text p base false ordinal = codes ", " ++ ordinal_text p base (pos ordinal)

-- members of a set, each after a comma but the first of all
abbrev pub members_text : ProgramRows → (base : ℕ) → (first : Bool) → List ℕ → List ℕ
members_text p base first [] = []
members_text p base first (ordinal ∷ others) =
    member_text p base first ordinal ++ flat_map (member_text p base false) others

-- the members of a set from an ordinal on, rising
unfoldable pub members_from : SetBits → ℕ → List ℕ
members_from set ordinal = filter (has set) (range_with_len ordinal (256 - ordinal))

-- a set with this base type: its members, rising
abbrev pub set_text : ProgramRows → (base : ℕ) → SetBits → List ℕ
set_text p base set = codes "[" ++ members_text p base true (members_from set 0) ++ codes "]"

-- A pointer: the variables of the heap are numbered by the cells before them, from 1 on.
abbrev pub heap_number : (address : ℕ) → ℕ
heap_number address = address - 524287

abbrev pub pointer_text : Value → List ℕ
pointer_text Value.Nil = codes "nil"
pointer_text (Value.Heap address) = codes "^" ++ decimal (heap_number address)
pointer_text v = unknown

abbrev pub number_text : ProgramRows → (of' : ℕ) → Value → List ℕ
number_text p of' (Value.Number ordinal) = ordinal_text p of' ordinal
number_text p of' v = unknown

abbrev pub set_value_text : ProgramRows → (base : ℕ) → Value → List ℕ
set_value_text p base (Value.Bits set) = set_text p base set
set_value_text p base v = unknown

abbrev pub text_by_type : ProgramRows → (of' : ℕ) → Option TypeRow → Value → List ℕ
text_by_type p of' (Some (TypeRow.Ordinal least greatest)) v = number_text p of' v
text_by_type p of' (Some (TypeRow.Subrange host least greatest)) v = number_text p of' v
text_by_type p of' (Some (TypeRow.Set packed base)) v = set_value_text p base v
text_by_type p of' (Some (TypeRow.Pointer domain)) v = pointer_text v
text_by_type p of' t v = unknown

-- a value of which no type is known: a number or a pointer
abbrev pub untyped_text : Value → List ℕ
untyped_text (Value.Number number) = signed_decimal number
untyped_text v = pointer_text v

-- a value of a type
abbrev pub typed_text : ProgramRows → (of' : ℕ) → Value → List ℕ
typed_text p of' v = text_by_type p of' (type_at p of') v
