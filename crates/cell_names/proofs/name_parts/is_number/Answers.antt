use Rattle.std.proofs.Common.{◌∙◌, arith, sym}
use Rattle.cell_names.proofs.Decimals.{all_text, digit_missing, digit_other, digit_same, first_same, not_one}
use Rattle.cell_names.proofs.name_parts.is_number.Goals as goal

pub digits-init : goal.digits-init
digits-init c = record { inside = omega arith; so_far = all_text c.args.text.now c.args.number }

pub returns-then-end-eq0 : goal.returns-then-end-eq0
returns-then-end-eq0 c =
    let more = c.digits-test.true in let small = c.digits.auto.left-fits in
    sym (digit_missing c.args.text.now c.digits.left c.digits.end (omega (arith, more)) (omega (arith, small)) c.if-end-eq0.true)
    ∙ c.digits.invariant.so_far

pub returns-then-from-left : goal.returns-then-from-left
returns-then-from-left c =
    let more = c.digits-test.true in let small = c.digits.auto.left-fits in let some = c.if-end-eq0.false in let is = c.from.ensures in
    let other = c.if-from-left.true in
    sym (digit_other c.args.text.now c.digits.left c.digits.end 0 (omega (arith, more)) (omega (arith, small)) (omega (arith, some))
    c.digits.invariant.inside (λ e. other (is ∙ e))) ∙ c.digits.invariant.so_far

pub digits-preserved : goal.digits-preserved
digits-preserved c =
    let more = c.digits-test.true in let small = c.digits.auto.left-fits in let some = c.if-end-eq0.false in let is = c.from.ensures in
    let inside = c.digits.invariant.inside in
    record {
      inside = omega (arith, inside);
      so_far = digit_same c.args.text.now c.digits.left c.digits.end 0 (omega (arith, more)) (omega (arith, small)) (omega (arith, some))
          inside (sym is ∙ c.if-from-left.false) ∙ c.digits.invariant.so_far;
    }

pub returns-then-end-eq1 : goal.returns-then-end-eq1
returns-then-end-eq1 c =
    let below = c.digits-test.false in let is = c.from-then-end-eq1.ensures in
    rw is (first_same c.args.text.now c.digits.left c.digits.end 0 (omega (arith, below)) c.if-end-eq1.true c.digits.invariant.inside
    ∙ c.digits.invariant.so_far)

pub returns-else-end-eq1 : goal.returns-else-end-eq1
returns-else-end-eq1 c =
    let below = c.digits-test.false in
    sym (not_one c.args.text.now c.digits.left c.digits.end (omega (arith, below)) c.digits.invariant.inside c.if-end-eq1.false)
    ∙ c.digits.invariant.so_far
