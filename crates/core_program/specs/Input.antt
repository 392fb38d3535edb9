-- Actions on the input, one turn of each loop at a time (6.6.6.5, 6.9.1, 6.9.2).
use Rattle.std.specs.Prelude.{if◌then◌else◌, ◌&&◌, ◌*◌, ◌+◌, ◌-◌, ◌==◌, ◌||◌, ℕ, ℤ, Bool, None, Option, Some, false}
use Rattle.std.specs.Prelude.{is_none, min, nat_le, neg_ℤ, pos, true}
use Rattle.cell_value.specs.{Arithmetic.integer, declared.values.Value.Value, declared.ways_out.Kind.Kind}
use Rattle.core_program.specs.{Acts.Fault, Acts.TakeIf, Values.or_fault, Values.truth}
use Rattle.core_program.specs.Actions.{◌>>=◌, Action, Fail, Give, act}
use Rattle.core_program.specs.declared.scan.Scan.{Scan, TheVariants.Blanks, TheVariants.Digits}
use Rattle.core_program.specs.declared.scan.Scanned.{Scanned, TheVariants.Further, TheVariants.Whole}

-- the item that ends a line
abbrev pub line_end : ℕ
line_end = 256

-- a space
abbrev pub space : ℕ
space = 32

abbrev pub any_item : ℕ → Bool
any_item item = true

abbrev pub no_item : ℕ → Bool
no_item item = false

-- a space, a tab or a line end
abbrev pub is_blank : ℕ → Bool
is_blank item = (item == space) || ((item == 9) || (item == line_end))

abbrev pub is_minus : ℕ → Bool
is_minus item = item == 45

-- `+` or `-`
abbrev pub is_sign : ℕ → Bool
is_sign item = (item == 43) || is_minus item

abbrev pub is_digit : ℕ → Bool
is_digit item = nat_le 48 item && nat_le item 57

-- what is taken where an integer is to be read: blanks before it, and its first char
abbrev pub leads_on : ℕ → Bool
leads_on item = is_blank item || (is_sign item || is_digit item)

-- ---- eof and eoln

-- whether the input is at its end (6.6.6.5)
abbrev pub at_end : Action Value
at_end = act (TakeIf no_item) >>= λ item. Give (truth (is_none item))

abbrev pub tells_line_end : Option ℕ → Action Bool
tells_line_end None = Fail (Fault Kind.PastEnd)
tells_line_end (Some item) = Give (item == line_end)

-- whether the input is at a line end; at its end that is a fault (6.6.6.5)
abbrev pub at_line_end : Action Value
at_line_end = act (TakeIf no_item) >>= λ item. tells_line_end item >>= λ ends. Give (truth ends)

-- ---- chars and lines

-- a line end is read as a space
abbrev pub char_of : Option ℕ → Action Value
char_of None = Fail (Fault Kind.PastEnd)
char_of (Some item) = Give (Value.Number (pos (if item == line_end then space else item)))

-- reads a char (6.9.1)
abbrev pub next_char : Action Value
next_char = act (TakeIf any_item) >>= char_of

-- takes an item of the rest of a line, and says whether the line ended with it (6.9.2)
abbrev pub past_item : Action Bool
past_item = act (TakeIf any_item) >>= tells_line_end

-- ---- integers

-- the number that digits and one more make; all beyond maxint count as the first of them
abbrev pub with_digit : (number item : ℕ) → ℕ
with_digit number item = min (10 * number + (item - 48)) 2147483648

-- digits with a sign before them (6.1.5)
abbrev pub signed_number : (minus : Bool) → (number : ℕ) → ℤ
signed_number true number = neg_ℤ (pos number)
signed_number false number = pos number

-- the integer that digits make: one beyond maxint is the fault Overflow
abbrev pub integer_read : (minus : Bool) → (number : ℕ) → Action Scanned
integer_read minus number = or_fault (integer (signed_number minus number)) >>= λ v. Give (Whole v)

-- the first digit, without which there is no integer
abbrev pub first_digit : (minus : Bool) → Option ℕ → Action Scanned
first_digit minus None = Fail (Fault Kind.BadNumber)
first_digit minus (Some item) =
    if is_digit item then Give (Further (Digits minus (with_digit 0 item))) else Fail (Fault Kind.BadNumber)

-- what stands where an integer is to be read: a blank, or its sign with a digit after that, or its first digit
abbrev pub leading : Option ℕ → Action Scanned
leading None = Fail (Fault Kind.PastEnd)
leading (Some item) =
    if is_blank item then Give (Further Blanks)
    else if is_sign item then act (TakeIf is_digit) >>= first_digit (is_minus item)
    else first_digit false (Some item)

-- a further digit; what is none ends the integer
abbrev pub further : (minus : Bool) → (number : ℕ) → Option ℕ → Action Scanned
further minus number None = integer_read minus number
further minus number (Some item) =
    if is_digit item then Give (Further (Digits minus (with_digit number item))) else integer_read minus number

-- one turn of the reading of an integer (6.9.1): each item that is met is looked at once, and then taken if it is a
-- blank before the integer or one of its chars
abbrev pub scan_on : Scan → Action Scanned
scan_on Blanks = act (TakeIf leads_on) >>= leading
scan_on (Digits minus number) = act (TakeIf is_digit) >>= further minus number
