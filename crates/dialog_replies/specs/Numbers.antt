-- The numbers that words spell.
use Rattle.std.specs.Prelude.{if◌then◌else◌, ◌&&◌, ◌∷◌, [], ℕ, Bool, List, None, Option, Some, length, nat_eq, nat_le}
use Rattle.std.specs.{Char.is_ascii_digit, List.list_all, Str.Parse.digits_value}

-- one to nine decimal digits, leading zeros among them
abbrev pub is_number : List ℕ → Bool
is_number word = nat_le 1 (length word) && nat_le (length word) 9 && list_all is_ascii_digit word

abbrev pub number_of : List ℕ → Option ℕ
number_of word = if is_number word then Some (digits_value 10 word) else None

-- a routine by its number: `#` and such a word
abbrev pub routine_number : List ℕ → Option ℕ
routine_number [] = None
routine_number (c ∷ cs) = if nat_eq c 35 then number_of cs else None
