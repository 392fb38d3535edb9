-- The state of a run, and the limits of a run.
use Rattle.std.specs.Prelude.{◌&&◌, ◌+◌, ◌<◌, ◌||◌, ◌≡◌, ◌≤◌, ℕ, Bool, IsSome, List, None, length, min, nat_le, nat_lt}
use Rattle.std.specs.{FinMap.FinMap, FinMap.get, Ordering.nat_cmp}
use Rattle.cell_value.specs.{Effects.heap_end, declared.values.Value.Value}

pub record State : Type 0 where
  -- the value of each cell, by its address: the stack's from 0 on, the heap's from 524,288 on
  pub cells : FinMap nat_cmp Value
  -- the first free address of the stack
  pub top : ℕ
  -- the first free address of the heap
  pub fresh : ℕ
  -- the items of the input: each char by its ordinal, and 256 for a line end
  pub items : List ℕ
  -- how many of them were taken
  pub place : ℕ
  -- the bytes of the output
  pub output : List ℕ
  -- the steps that are left
  pub steps : ℕ
  -- the calls entered so far
  pub calls : ℕ
  -- the calls that are open
  pub depth : ℕ

-- the first address above the stack, which is the first of the heap
abbrev pub stack_end : ℕ
stack_end = 524288

-- how many calls a run may enter
abbrev pub most_calls : ℕ
most_calls = 500000

-- the greatest depth at which a call may stand
abbrev pub most_depth : ℕ
most_depth = 99999

-- The address that stands so far from another. No cell is at the heap's end or above it, and each address there
-- counts as that one.
abbrev pub moved : (address by : ℕ) → ℕ
moved address by = min (address + by) heap_end

-- whether an address is one of the stack below `top`, or one of the heap's range
abbrev pub is_in_reach : State → ℕ → Bool
is_in_reach σ addr = nat_lt addr σ.top || (nat_le stack_end addr && nat_lt addr heap_end)

-- a state that a run can be continued from
pub record IsSound (σ : State) : Type 0 where
  -- the stack holds each cell below `top` and no other
  pub stack : (addr : ℕ) → addr < σ.top → IsSome (get σ.cells addr)
  pub above_stack : (addr : ℕ) → σ.top ≤ addr → addr < stack_end → get σ.cells addr ≡ None
  pub above_heap : (addr : ℕ) → σ.fresh ≤ addr → get σ.cells addr ≡ None
  pub stack_fits : σ.top ≤ stack_end
  pub heap_begins : stack_end ≤ σ.fresh
  pub heap_fits : σ.fresh ≤ heap_end
  pub input : σ.place ≤ length σ.items
  pub calls : σ.calls ≤ most_calls
  pub depth : σ.depth ≤ most_depth + 1
