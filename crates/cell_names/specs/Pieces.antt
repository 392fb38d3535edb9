-- Pieces of text: characters, and what was read and written.
use Rattle.std.specs.Prelude.{if◌then◌else◌, ◌%◌, ◌&&◌, ◌++◌, ◌+◌, ◌/◌, ◌==◌, ◌||◌, ◌∷◌, [], ℕ, Bool, List, codes}
use Rattle.std.specs.Prelude.{decimal, flat_map, nat_le, nat_lt}

-- whether a character is shown as it is: those from the blank to the tilde are
abbrev pub is_plain : ℕ → Bool
is_plain item = nat_le 32 item && nat_le item 126

-- a character by itself
abbrev pub byte_text : ℕ → List ℕ
byte_text byte = byte % 256 ∷ []

-- the last digit of a number in hexadecimal, in small letters
abbrev pub hex_digit : ℕ → ℕ
hex_digit number = if nat_lt (number % 16) 10 then 48 + number % 16 else 87 + number % 16

-- a byte by its two digits in hexadecimal
abbrev pub hex_of : ℕ → List ℕ
hex_of byte = codes "\\x" ++ byte_text (hex_digit (byte / 16)) ++ byte_text (hex_digit byte)

-- A byte that was written, or an item that was read, between quotation marks. A line end is written as the byte 10, and
-- read as the item 256.
abbrev pub escaped : ℕ → List ℕ
escaped item = if item == 34 then codes "\\\""
    else if item == 92 then codes "\\\\"
    else if (item == 10) || (item == 256) then codes "\\n"
    else if is_plain item then byte_text item
    else hex_of item

-- what was written or read, in quotation marks
abbrev pub in_quotation_marks : List ℕ → List ℕ
in_quotation_marks items = codes "\"" ++ flat_map escaped items ++ codes "\""

-- a value of the type char: as a string of the language, where the apostrophe is written twice, or by its ordinal
abbrev pub shown_char : ℕ → List ℕ
shown_char ordinal = if ordinal == 39 then codes "''''"
    else if is_plain ordinal then codes "'" ++ byte_text ordinal ++ codes "'"
    else codes "chr(" ++ decimal ordinal ++ codes ")"
