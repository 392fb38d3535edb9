-- The operators on integers. The integers are the whole numbers from -maxint to maxint, and an
-- operation whose result is none of them is an error (ISO 7185, clauses 6.4.2.2 and 6.7.2.2).
use Rattle.std.specs.Prelude.{if◌then◌else◌, ◌&&◌, ◌*ℤ◌, ◌+ℤ◌, ◌-ℤ◌, ◌<ℤ◌, ◌<◌, ◌==◌, ◌≡◌, ◌≤ℤ◌, ◌≤◌, ℕ, ℤ, Err, None}
use Rattle.std.specs.Prelude.{Ok, Option, Result, Some, int_div, int_le, nat_le, neg_ℤ, pos, unsigned_abs}
use Rattle.std.specs.Int.{int_rem_euclid}
use Rattle.cell_value.specs.declared.{arithmetic.ArithOp.ArithOp, values.Value.Value, values.Value.TheVariants.Number}
use Rattle.cell_value.specs.declared.arithmetic.ArithOp.TheVariants.{Div, Minus, Mod, Plus, Times}
use Rattle.cell_value.specs.declared.faults.OpFault.{OpFault, TheVariants.ZeroDivisor}
use Rattle.cell_value.specs.declared.faults.OpFault.TheVariants.{BadModulus, OutOfRange, Overflow, UndefinedValue}

abbrev pub maxint : ℕ
maxint = 2147483647

-- a whole number as a value, and Overflow where it is no integer
abbrev pub integer : ℤ → Result Value OpFault
integer n = if nat_le (unsigned_abs n) maxint then Ok (Number n) else Err Overflow

-- the same, where None stands for a whole number that is too large to be computed
abbrev pub checked : Option ℤ → Result Value OpFault
checked (Some n) = integer n
checked None = Err Overflow

-- a value is a number from -maxint to maxint
abbrev pub IsInteger : Value → Type 0
IsInteger (Number n) = unsigned_abs n ≤ maxint
IsInteger _ = ⊥

-- an operator at two numbers; `int_div` rounds toward zero, and `int_rem_euclid` is not negative
abbrev pub of_numbers : ArithOp → ℤ → ℤ → Result Value OpFault
of_numbers Plus i j = integer (i +ℤ j)
of_numbers Minus i j = integer (i -ℤ j)
of_numbers Times i j = integer (i *ℤ j)
of_numbers Div i j = if unsigned_abs j == 0 then Err ZeroDivisor else integer (int_div i j)
of_numbers Mod i j = if int_le j (pos 0) then Err BadModulus else integer (int_rem_euclid i j)

-- an operator at two values: both have to be numbers
abbrev pub arith_of : ArithOp → Value → Value → Result Value OpFault
arith_of op (Number i) (Number j) = of_numbers op i j
arith_of op _ _ = Err UndefinedValue

-- the sign `-` before a value
abbrev pub negate_of : Value → Result Value OpFault
negate_of (Number i) = integer (neg_ℤ i)
negate_of _ = Err UndefinedValue

-- the value itself where it is a number between the two bounds, which belong to the range
abbrev pub in_range_of : Value → ℤ → ℤ → Result Value OpFault
in_range_of (Number i) least greatest =
    if int_le least i && int_le i greatest then Ok (Number i) else Err OutOfRange
in_range_of _ least greatest = Err UndefinedValue

-- q is i divided by j, rounded toward zero
pub record IsQuotient (i j q : ℤ) : Type 0 where
  pub near : unsigned_abs (i -ℤ (q *ℤ j)) < unsigned_abs j
  pub toward_zero : unsigned_abs (q *ℤ j) ≤ unsigned_abs i

-- r is at least 0 and below j, and i less r is a multiple of j
pub record IsRemainder (i j r : ℤ) : Type 0 where
  pub least : pos 0 ≤ℤ r
  pub below : r <ℤ j
  pub multiple : (k : ℤ) × ((i -ℤ r) ≡ (k *ℤ j))
