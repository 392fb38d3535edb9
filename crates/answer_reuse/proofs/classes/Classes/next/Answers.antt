use Rattle.std.proofs.Common.{◌&&◌, ◌+◌, ◌<◌, ◌==◌, ◌∙◌, ◌≡◌, ◌≤◌, ℕ, ap, arith, false, inl, inr, length, nat_lt, slice_index, sym, true}
use Rattle.std.proofs.lemmas.{Bool.Decides.nat_tests, Option.get_or_from_slice_get}
use Rattle.answer_book.specs.Numbers.{numbers_below}
use Rattle.answer_reuse.proofs.NumbersPassing.{found_first, later_passes, later_passes_not, none_found}
use Rattle.answer_reuse.proofs.classes.Classes.next.Goals as goal

pub returns-then-is_of : goal.returns-then-is_of
returns-then-is_of c =
    let classes = c.args.self.now in
    let least = get_or_from_slice_get classes c.args.call c.least-least.result 0 c.least-least.ensures in
    let p = λ (other : ℕ). slice_index classes other == slice_index classes c.args.call in
    let is : p c.later.other ≡ true = ap (λ l. slice_index classes c.later.other == l) least ∙ sym c.is_of.ensures ∙ c.if-is_of.true in
    sym (found_first (λ other. nat_lt c.args.call other && p other) (length classes) c.later.other
    (omega (arith, c.later-test.true, c.len-calls.ensures.number))
    (λ k below. later_passes_not p c.args.call k (λ l. ap (λ m. slice_index classes k == m) least ∙ c.later.invariant k l below))
    (later_passes p c.args.call c.later.other (omega (arith, c.later.auto.other)) is))

pub returns : goal.returns
returns c =
    let classes = c.args.self.now in
    let least = get_or_from_slice_get classes c.args.call c.least-least.result 0 c.least-least.ensures in
    let p = λ (other : ℕ). slice_index classes other == slice_index classes c.args.call in
    sym (none_found (λ other. nat_lt c.args.call other && p other) (length classes)
    (λ k below. later_passes_not p c.args.call k (λ l. ap (λ m. slice_index classes k == m) least
    ∙ c.later.invariant k l (omega (arith, below, c.later-test.false, c.len-calls.ensures.number)))))
