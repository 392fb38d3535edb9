use Rattle.std.proofs.Common.{◌++◌, ◌+◌, ◌∙◌, ◌∷◌, ◌≡◌, [], ap, arith, sym}
use Rattle.answer_book.specs.Numbers.{numbers_below}
use Rattle.answer_reuse.proofs.NumbersPassing.{numbers_more}
use Rattle.answer_reuse.proofs.classes.Classes.apart.Goals as goal

pub calls-preserved : goal.calls-preserved
calls-preserved c = record {
  items = c.in_ok-push.ensures.items ∙ ap (λ l. l ++ c.calls.call ∷ []) c.calls.invariant.items ∙ sym (numbers_more c.calls.call);
  len = omega (arith, c.in_ok-push.ensures.len, c.calls.invariant.len);
}

pub invariant_of-result : goal.invariant_of-result
invariant_of-result c = record { few = omega (arith, c.calls.invariant.len, c.calls.auto.call-end, c.requires.few) }

pub returns : goal.returns
returns c = c.calls.invariant.items ∙ ap numbers_below (let e : c.calls.call ≡ c.args.calls = omega (arith, c.calls-test.false, c.calls.auto.call-end) in e)
