-- The laws of `div` and `mod`, first at whole numbers and then at what `arith_of` gives.
use Rattle.std.proofs.Common.{◌*ℤ◌, ◌+ℤ◌, ◌-ℤ◌, ◌/◌, ◌<ℤ◌, ◌<◌, ◌==◌, ◌≡◌, ℕ, ℤ, Bool, Err, IfOk, Ok, arith, cond, false, int_div, int_le, int_rem, nat_le}
use Rattle.std.proofs.Common.{neg_ℤ, negsuc, pos, refl, subst, suc, true, unsigned_abs, zero}
use Rattle.std.proofs.{Math.Nat.div-mul-le_self, lemmas.Int.ints, lemmas.Int.quot-rem, lemmas.Int.rem_below, lemmas.Int.unsigned_abs-mul}
use Rattle.std.specs.Int.{int_div_euclid, int_rem_euclid}
use Rattle.cell_value.specs.Arithmetic.{IsInteger, IsQuotient, IsRemainder, arith_of, integer, maxint, of_numbers}
use Rattle.cell_value.specs.declared.{arithmetic.ArithOp.ArithOp, values.Value.Value, values.Value.TheVariants.Number}
use Rattle.cell_value.specs.declared.arithmetic.ArithOp.TheVariants.{Div, Minus, Mod, Plus, Times}
use Rattle.cell_value.specs.declared.faults.OpFault.{OpFault, TheVariants.BadModulus, TheVariants.Overflow, TheVariants.ZeroDivisor}

-- ---- the laws at whole numbers

-- a number and its negation have one size
unsigned_abs-neg : (n : ℕ) → unsigned_abs (neg_ℤ (pos n)) ≡ n
unsigned_abs-neg zero = refl
unsigned_abs-neg (suc n) = refl

-- the size of a quotient is the quotient of the sizes
unsigned_abs-int_div : (i j : ℤ) → unsigned_abs (int_div i j) ≡ unsigned_abs i / unsigned_abs j
unsigned_abs-int_div (pos a) (pos b) = refl
unsigned_abs-int_div (pos a) (negsuc b) = unsigned_abs-neg (a / suc b)
unsigned_abs-int_div (negsuc a) (pos b) = unsigned_abs-neg (suc a / b)
unsigned_abs-int_div (negsuc a) (negsuc b) = refl

-- what a part of a sum leaves
sub_from-sum : (i part rest : ℤ) → part +ℤ rest ≡ i → i -ℤ part ≡ rest
sub_from-sum i part rest e = omega (arith, ints)

-- std's quotient is the one that the law of `div` describes
int_div_is : (i j : ℤ) → 0 < unsigned_abs j → IsQuotient i j (int_div i j)
int_div_is i j h = record {
  near = rw (sub_from-sum i (int_div i j *ℤ j) (int_rem i j) (quot-rem i j)) (rem_below i j h);
  toward_zero = rw (unsigned_abs-mul (int_div i j) j, unsigned_abs-int_div i j) (div-mul-le_self (unsigned_abs i) (unsigned_abs j));
}

-- the quotient that goes with the remainder of `mod`
int_div_euclid-mul : (i : ℤ) (n : ℕ) → i -ℤ int_rem_euclid i (pos (suc n)) ≡ int_div_euclid i (pos (suc n)) *ℤ pos (suc n)
int_div_euclid-mul (pos a) n = omega (arith, ints)
int_div_euclid-mul (negsuc a) n = omega (arith, ints)

-- std's remainder is the one that the law of `mod` describes
int_rem_euclid_is_remainder : (i j : ℤ) → pos 0 <ℤ j → IsRemainder i j (int_rem_euclid i j)
int_rem_euclid_is_remainder i (pos zero) h = let no : ⊥ = omega (arith, ints) in absurd no
int_rem_euclid_is_remainder (pos a) (pos (suc n)) h = record {
  least = omega (arith, ints);
  below = omega (arith, ints);
  multiple = (int_div_euclid (pos a) (pos (suc n)), int_div_euclid-mul (pos a) n);
}
int_rem_euclid_is_remainder (negsuc a) (pos (suc n)) h = record {
  least = omega (arith, ints);
  below = omega (arith, ints);
  multiple = (int_div_euclid (negsuc a) (pos (suc n)), int_div_euclid-mul (negsuc a) n);
}
int_rem_euclid_is_remainder i (negsuc n) h = let no : ⊥ = omega (arith, ints) in absurd no

-- ---- what an operator gives is an integer

below_maxint : (b : Bool) (n : ℤ) → nat_le (unsigned_abs n) maxint ≡ b → IfOk (cond b (Ok (Number n)) (Err Overflow)) IsInteger
below_maxint true n e = grind arith
below_maxint false n e = tt

integer_whole : (n : ℤ) → IfOk (integer n) IsInteger
integer_whole n = below_maxint (nat_le (unsigned_abs n) maxint) n refl

cond_whole : (b : Bool) (fault : OpFault) (n : ℤ) → IfOk (cond b (Err fault) (integer n)) IsInteger
cond_whole true fault n = tt
cond_whole false fault n = integer_whole n

of_numbers_whole : (op : ArithOp) (i j : ℤ) → IfOk (of_numbers op i j) IsInteger
of_numbers_whole Plus i j = integer_whole (i +ℤ j)
of_numbers_whole Minus i j = integer_whole (i -ℤ j)
of_numbers_whole Times i j = integer_whole (i *ℤ j)
of_numbers_whole Div i j = cond_whole (unsigned_abs j == 0) ZeroDivisor (int_div i j)
of_numbers_whole Mod i j = cond_whole (int_le j (pos 0)) BadModulus (int_rem_euclid i j)

-- what an operator gives is an integer
pub arith_of_whole : (op : ArithOp) (left right : Value) → IfOk (arith_of op left right) IsInteger
arith_of_whole op (Number i) (Number j) = of_numbers_whole op i j
arith_of_whole op (Number i) _ = tt
arith_of_whole op _ _ = tt

-- ---- the laws at the values that an operator is given

-- the number in a result is the number that was computed
integer_gives : (n q : ℤ) → integer n ≡ Ok (Number q) → n ≡ q
integer_gives n q e = grind arith

cond_gives : (b : Bool) (fault : OpFault) (n q : ℤ) → cond b (Err fault) (integer n) ≡ Ok (Number q) → (b ≡ false) × (n ≡ q)
cond_gives true fault n q e = cc
cond_gives false fault n q e = (refl, integer_gives n q e)

positive : (n : ℕ) → (n == 0) ≡ false → 0 < n
positive n e = grind arith

above_zero : (j : ℤ) → int_le j (pos 0) ≡ false → pos 0 <ℤ j
above_zero j e = grind (arith, ints)

-- the law of `div`
pub quotient_law : (op : ArithOp) (left right : Value) (i j q : ℤ) → op ≡ Div → left ≡ Number i → right ≡ Number j → arith_of op left right ≡ Ok (Number q)
    → IsQuotient i j q
quotient_law op left right i j q o l r e =
    let at_numbers : of_numbers Div i j ≡ Ok (Number q) = rw (o, l, r) at e in
    let given = cond_gives (unsigned_abs j == 0) ZeroDivisor (int_div i j) q at_numbers in
    let divisor : 0 < unsigned_abs j = positive (unsigned_abs j) given.0 in
    subst (IsQuotient i j) given.1 (int_div_is i j divisor)

-- the law of `mod`
pub remainder_law : (op : ArithOp) (left right : Value) (i j n : ℤ) → op ≡ Mod → left ≡ Number i → right ≡ Number j → arith_of op left right ≡ Ok (Number n)
    → IsRemainder i j n
remainder_law op left right i j n o l r e =
    let at_numbers : of_numbers Mod i j ≡ Ok (Number n) = rw (o, l, r) at e in
    let given = cond_gives (int_le j (pos 0)) BadModulus (int_rem_euclid i j) n at_numbers in
    let divisor : pos 0 <ℤ j = above_zero j given.0 in
    subst (IsRemainder i j) given.1 (int_rem_euclid_is_remainder i j divisor)
