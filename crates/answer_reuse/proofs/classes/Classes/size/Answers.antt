use Rattle.std.proofs.Common.{if◌then◌else◌, ◌+◌, ◌<◌, ◌==◌, ◌∙◌, ◌≡◌, ◌≤◌, ℕ, ap, arith, filter, length, slice_index, sym}
use Rattle.std.proofs.lemmas.Option.{get_or_from_slice_get}
use Rattle.answer_book.specs.Numbers.{numbers_below}
use Rattle.answer_reuse.proofs.NumbersPassing.{count_more, count_up_to}
use Rattle.answer_reuse.proofs.classes.Classes.size.Goals as goal

pub overflow_add-size : goal.overflow_add-size
overflow_add-size c =
    let now = count_up_to (λ other. slice_index c.args.self.now other == c.least-least.result) (c.calls.other + 1) in
    let more = count_more (λ other. slice_index c.args.self.now other == c.least-least.result) c.calls.other in
    let one = c.one_if-size.ensures ∙ ap (λ b. if b then 1 else 0) c.is_of.ensures in
    omega (arith, now, more, one, c.calls.invariant, c.calls-test.true, c.len-other-end.ensures.few)

pub calls-preserved : goal.calls-preserved
calls-preserved c =
    let more = count_more (λ other. slice_index c.args.self.now other == c.least-least.result) c.calls.other in
    let one = c.one_if-size.ensures ∙ ap (λ b. if b then 1 else 0) c.is_of.ensures in
    omega (arith, more, one, c.calls.invariant)

pub returns : goal.returns
returns c =
    let classes = c.args.self.now in
    let least = get_or_from_slice_get classes c.args.call c.least-least.result 0 c.least-least.ensures in
    let end : c.calls.other ≡ length classes = omega (arith, c.calls-test.false, c.calls.auto.other-end, c.len-other-end.ensures.number) in
    c.calls.invariant ∙ (λ i. length (filter (λ (other : ℕ). slice_index classes other == sym least i) (numbers_below (end i))))
