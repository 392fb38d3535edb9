-- The frame of the reference's program block is made cell by cell.
use Rattle.std.proofs.Common.{◌+◌, ◌-◌, ◌<◌, ◌∙◌, ◌≡◌, ℕ, List, Option, ap, arith, map, suc, sym}
use Rattle.std.specs.{FinMap.FinMap, FinMap.insert, List.range_with_len, Ordering.nat_cmp}
use Rattle.cell_value.specs.declared.values.Value.{Value}
use Rattle.core_program.specs.Blocks.{filled}
use Rattle.reference_oracle.specs.Asking.{held_by_place}

module _ (cells : FinMap nat_cmp Value) (places : List (Option ℕ)) where
  -- the cells of the frame that are not made yet
  abbrev pub rest_of : (address all : ℕ) → List Value
  rest_of address all = map (held_by_place cells places) (range_with_len address (all - address))

  pub frame_goes_on : (address all : ℕ) (old new : FinMap nat_cmp Value) (value : Value) → address < all → value ≡ held_by_place cells places address
      → new ≡ insert old address value → filled (address + 1) (rest_of (address + 1) all) new ≡ filled address (rest_of address all) old
  frame_goes_on address all old new value less held put =
      let one : all - address ≡ suc (all - (address + 1)) = omega arith in
      ap (filled (address + 1) (rest_of (address + 1) all)) (put ∙ ap (insert old address) held)
      ∙ ap (λ n. filled address (map (held_by_place cells places) (range_with_len address n)) old) (sym one)
