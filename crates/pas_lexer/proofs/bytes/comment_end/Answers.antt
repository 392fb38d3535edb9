use Rattle.std.proofs.Common.{◌&&◌, ◌+◌, ◌∙◌, ap, arith, get_or, nat_eq, sym}
use Rattle.pas_lexer.proofs.{LongestRun.rest_is, OneByteFurther.comment_goes_on}
use Rattle.pas_lexer.proofs.bytes.comment_end.Goals as goal
use Rattle.pas_lexer.specs.{Lexis.next_is, Reading.closing}

pub body-preserved : goal.body-preserved
body-preserved c = record {
  so_far = comment_goes_on c.args.bytes.now c.body.at (closing c.args.bytes.now) c.body-test.true c.if-bytes-at-eq125.false
      (ap (λ l. nat_eq (get_or c.args.bytes.now c.body.at 0) 42 && next_is 41 l) (sym (rest_is c.args.bytes.now (c.body.at + 1))) ∙ sym c.is_pair.ensures.pair
      ∙ c.if-is_pair.false) c.body.invariant.so_far;
  inside = omega arith;
}
