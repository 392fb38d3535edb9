-- The state from which a reference is asked, by the columns of places.
use Rattle.std.specs.Prelude.{◌∷◌, [], ℕ, List, Option, drop, map, option_and_then, suc, unwrap_or, zero}
use Rattle.std.specs.{FinMap.FinMap, FinMap.get, List.range_with_len, Ordering.nat_cmp}
use Rattle.cell_value.specs.declared.values.Value.{Value, TheVariants.Frame, TheVariants.Nil, TheVariants.Undefined}
use Rattle.core_program.specs.State.{stack_end}
use Rattle.call_tree.specs.declared.records.Side.{Side}
use Rattle.reference_oracle.specs.Places.{place_at}

abbrev pub held_by_place : FinMap nat_cmp Value → List (Option ℕ) → (address : ℕ) → Value
held_by_place cells places address = unwrap_or (option_and_then (λ a. get cells a) (place_at places address)) Undefined

abbrev pub frame_by : FinMap nat_cmp Value → List (Option ℕ) → (cells : ℕ) → List Value
frame_by cells places zero = []
frame_by cells places (suc variables) = Nil ∷ map (held_by_place cells places) (range_with_len 1 variables)

abbrev pub side_for : FinMap nat_cmp Value → (cells budget : ℕ) → Side
side_for store cells budget = record {
  mark = 0;
  top = cells;
  fresh = stack_end;
  place = 0;
  output = 0;
  steps = budget;
  calls = 1;
  store = store;
}

abbrev pub moved_by : List (Option ℕ) → Value → Value
moved_by places (Value.Place address) = Value.Place (unwrap_or (place_at places address) address)
moved_by places v = v

abbrev pub args_by : List (Option ℕ) → List Value → List Value
args_by places args = Frame 0 ∷ map (moved_by places) (drop 1 args)
