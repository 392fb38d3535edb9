use Rattle.std.proofs.Common.{◌<◌, ◌^◌, ◌≤◌, ℕ, arith}
use Rattle.std.proofs.Math.Nat.{pow-le-pow_right}
use Rattle.dialog_replies.proofs.numbers.number_in.Goals as goal

-- eight digits spell a number below this
below_nine : (n i : ℕ) → n < 10 ^ i → i ≤ 8 → n < 100000000
below_nine n i below few =
    let most : 10 ^ i ≤ 10 ^ 8 = pow-le-pow_right (omega arith) few in omega arith

pub overflow_mul-number : goal.overflow_mul-number
overflow_mul-number c = omega (arith, below_nine c.loop-digit.number c.loop-digit.digit-index c.loop-digit.invariant.below (omega arith))

pub overflow_add-number : goal.overflow_add-number
overflow_add-number c = omega (
  arith,
  c.type_inv.word c.loop-digit.digit-index,
  below_nine c.loop-digit.number c.loop-digit.digit-index c.loop-digit.invariant.below (omega arith),
)
