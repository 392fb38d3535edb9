use Rattle.std.proofs.Common.{◌*◌, ◌+◌, ◌∙◌, ap, arith, drop, sym}
use Rattle.pas_lexer.proofs.DecimalByDigit.{one_more, then_digits, too_large}
use Rattle.pas_lexer.proofs.piece.number_of.Goals as goal

pub returns-then-value-gt-MAXINT : goal.returns-then-value-gt-MAXINT
returns-then-value-gt-MAXINT c = too_large c.args.digits.now c.loop-c.c-index c.loop-c.value c.loop-c-test.true c.loop-c.invariant.so_far
    (omega (arith, c.from.ensures, c.if-value-gt-MAXINT.true))

pub loop-c-preserved : goal.loop-c-preserved
loop-c-preserved c = record {
  so_far = ap (λ d. then_digits (c.loop-c.value * 10 + d) (drop (c.loop-c.c-index + 1) c.args.digits.now)) c.from.ensures
      ∙ sym (one_more c.args.digits.now c.loop-c.c-index c.loop-c.value c.loop-c-test.true) ∙ c.loop-c.invariant.so_far;
  small = c.if-value-gt-MAXINT.false;
}
