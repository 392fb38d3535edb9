-- Cells side by side: those of a frame on the stack, and those of a block on the heap.
use Rattle.std.specs.Prelude.{◌&&◌, ◌+◌, ◌∷◌, [], ℕ, Bool, List, max, nat_le, suc, zero}
use Rattle.std.specs.{FinMap.FinMap, FinMap.insert, FinMap.remove, Ordering.nat_cmp}
use Rattle.cell_value.specs.{Effects.heap_end, declared.values.Value.Value}
use Rattle.core_program.specs.State.{stack_end}

-- values in the cells from an address on
abbrev pub filled : (first : ℕ) → List Value → FinMap nat_cmp Value → FinMap nat_cmp Value
filled first [] m = m
filled first (v ∷ vs) m = filled (first + 1) vs (insert m first v)

-- no cells at this many addresses, from an address on
abbrev pub cleared : (first cells : ℕ) → FinMap nat_cmp Value → FinMap nat_cmp Value
cleared first zero m = m
cleared first (suc n) m = cleared (first + 1) n (remove m first)

-- the cells of a heap block of a type with this many cells: at least one
abbrev pub block_cells : ℕ → ℕ
block_cells cells = max cells 1

-- whether this many cells from an address on lie in the heap
abbrev pub lies_in_heap : (addr cells : ℕ) → Bool
lies_in_heap addr cells = nat_le stack_end addr && nat_le (addr + cells) heap_end
