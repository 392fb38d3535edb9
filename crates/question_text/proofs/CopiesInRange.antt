-- The cells of a copy among what a call was entered with, where sums are capped.
use Rattle.std.proofs.Common.{◌+◌, ◌-◌, ◌∙◌, ◌≡◌, ◌≤◌, ℕ, Bool, List, ap, arith, drop, false, length, min, nat_le, refl, slice_range, sym, true}
use Rattle.std.proofs.lemmas.{Bool.Decides.nat_tests, List.length-drop, List.take_all}
use Rattle.cell_value.specs.declared.values.Value.{Value}
use Rattle.question_text.proofs.LinesInTurn.{none_left}

-- from a number on to the end of a list or beyond it there is all that is left of it
all_left : (args : List Value) (from to : ℕ) → length args ≤ to → slice_range args from to ≡ drop from args
all_left args from to past =
    take_all (to - from) (drop from args) (let e = length-drop from args in omega (arith, e, past))

-- a range to the end of a list at most is as one beyond it
range_within : (args : List Value) (from to end : ℕ) → to ≡ min end (length args) → slice_range args from to ≡ slice_range args from end
range_within args from to end is = by (nat_le end (length args)) refl
  where
    by : (b : Bool) → nat_le end (length args) ≡ b → slice_range args from to ≡ slice_range args from end
    by true e = ap (slice_range args from) (let z : to ≡ end = grind (arith, nat_tests, e, is) in z)
    by false e =
        all_left args from to (let z : length args ≤ to = grind (arith, nat_tests, e, is) in z)
        ∙ sym (all_left args from end (let z : length args ≤ end = grind (arith, nat_tests, e) in z))

-- a range whose ends are capped, with no cap
pub range_capped : (args : List Value) (a n from to : ℕ) → length args ≤ 4294967295 → from ≡ min a 4294967295
    → to ≡ min (min (from + n) 4294967295) (length args) → slice_range args from to ≡ slice_range args a (a + n)
range_capped args a n from to most begin end = by (nat_le (length args) a) refl
  where
    by : (b : Bool) → nat_le (length args) a ≡ b → slice_range args from to ≡ slice_range args a (a + n)
    by true e =
        none_left args from to (let z : min to (length args) ≤ from = grind (arith, nat_tests, e, most, begin) in z)
        ∙ sym (none_left args a (a + n) (let z : min (a + n) (length args) ≤ a = grind (arith, nat_tests, e) in z))
    by false e =
        ap (λ i. slice_range args i to) (let z : from ≡ a = grind (arith, nat_tests, e, most, begin) in z)
        ∙ range_within args a to (a + n) (let z : to ≡ min (a + n) (length args) = grind (arith, nat_tests, e, most, begin, end) in z)
