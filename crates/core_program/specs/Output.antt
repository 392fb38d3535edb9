-- What is written of a value, byte by byte (6.9.3, 6.9.5).
use Rattle.std.specs.Prelude.{if◌then◌else◌, ◌&&◌, ◌++◌, ◌-◌, ◌==◌, ◌∷◌, [], ℕ, Bool, List, None, Option, Some, codes}
use Rattle.std.specs.Prelude.{false, int_le, length, map, pos, replicate, take, true, unsigned_abs}
use Rattle.std.specs.Fmt.{signed_decimal}
use Rattle.cell_value.specs.declared.{values.Value.Value, ways_out.Kind.Kind}
use Rattle.core_program.specs.{Acts.Fault, Acts.GiveByte, Input.space, Values.is_true}
use Rattle.core_program.specs.Actions.{◌>>=◌, Action, Fail, Give, act}

-- ---- types

-- the numbers of required types
abbrev pub boolean_type : ℕ
boolean_type = 1

abbrev pub char_type : ℕ
char_type = 2

-- ---- texts

-- What is written of a value: a byte for each of its chars, and none for a component of a string that is undefined; and
-- whether a width that is less cuts it.
pub record Text : Type 0 where
  pub chars : List (Option ℕ)
  pub is_cut : Bool

-- the byte of a char, if the value is one
abbrev pub byte_of : Value → Option ℕ
byte_of (Value.Number n) = if int_le (pos 0) n && int_le n (pos 255) then Some (unsigned_abs n) else None
byte_of v = None

-- a char for each of these bytes
abbrev pub all_of : List ℕ → List (Option ℕ)
all_of bytes = map Some bytes

-- an integer in decimal, with `-` if it is negative (6.9.3.2)
abbrev pub integer_chars : Value → List (Option ℕ)
integer_chars (Value.Number n) = all_of (signed_decimal n)
integer_chars v = None ∷ []

-- the word for a value of Boolean (6.9.3.5)
abbrev pub boolean_word : Bool → List ℕ
boolean_word true = codes "true"
boolean_word false = codes "false"

abbrev pub boolean_text : Bool → Text
boolean_text holds = record { chars = all_of (boolean_word holds); is_cut = true }

abbrev pub char_text : Value → Text
char_text v = record { chars = byte_of v ∷ []; is_cut = false }

abbrev pub integer_text : Value → Text
integer_text v = record { chars = integer_chars v; is_cut = false }

-- the text of a value of a required type, by the number of the type
abbrev pub scalar_text : (host : ℕ) → Value → Text
scalar_text host v =
    if host == boolean_type then boolean_text (is_true v)
    else if host == char_type then char_text v
    else integer_text v

-- the text of a string, by the values of its components (6.9.3.6)
abbrev pub string_text : List Value → Text
string_text vs = record { chars = map byte_of vs; is_cut = true }

-- this many spaces
abbrev pub spaces : ℕ → List (Option ℕ)
spaces n = replicate n (Some space)

-- the first of them, as many as the width, where that cuts the text
abbrev pub kept : (width : ℕ) → Text → List (Option ℕ)
kept width text = if text.is_cut then take width text.chars else text.chars

-- A text in a width: spaces come before one that is shorter (6.9.3.1).
abbrev pub in_width : (width : ℕ) → Text → List (Option ℕ)
in_width width text = spaces (width - length text.chars) ++ kept width text

-- ---- actions

-- a byte is given
abbrev pub give_byte : (byte : ℕ) → Action (Unit {0})
give_byte byte = act (GiveByte byte)

-- one after the other is given, up to a component of a string that is undefined
abbrev pub gives : List (Option ℕ) → Action (Unit {0})
gives [] = Give tt
gives (Some byte ∷ cs) = give_byte byte >>= λ _. gives cs
gives (None ∷ cs) = Fail (Fault Kind.Undefined)

-- a width, which is at least 1 (6.9.3.1)
abbrev pub width_of : Value → Action ℕ
width_of (Value.Number n) = if int_le (pos 1) n then Give (unsigned_abs n) else Fail (Fault Kind.BadWidth)
width_of v = Fail (Fault Kind.Undefined)

-- writes a text, in a width if one is given
abbrev pub written : Text → Option Value → Action (Unit {0})
written text None = gives text.chars
written text (Some width) = width_of width >>= λ n. gives (in_width n text)

-- the end of a line, and of a page
abbrev pub end_line : Action (Unit {0})
end_line = give_byte 10

abbrev pub end_page : Action (Unit {0})
end_page = give_byte 12
