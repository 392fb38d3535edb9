-- What is passed to a routine, and the arguments with which a call begins.
use Rattle.std.specs.Prelude.{◌++◌, ◌+◌, ◌∷◌, [], ℕ, List, flat_map, length, slice_set}
use Rattle.cell_value.specs.declared.values.Value.{Value}

-- the copy of an array that is passed by value, and which of the cells of the parameters is to have its address
pub record ArrayCopy : Type 0 where
  pub at : ℕ
  pub cells : List Value

-- the cells of the parameters that were passed so far, and the copies that go with them
pub record Passed : Type 0 where
  pub cells : List Value
  pub copies : List ArrayCopy

abbrev pub nothing_passed : Passed
nothing_passed = record { cells = []; copies = [] }

-- further cells of parameters
abbrev pub and_cells : Passed → List Value → Passed
and_cells p vs = record { cells = p.cells ++ vs; copies = p.copies }

-- a further copy, and a cell for its address, which is known when the call begins
abbrev pub and_copy : Passed → List Value → Passed
and_copy p vs = record {
  cells = p.cells ++ Value.Undefined ∷ [];
  copies = p.copies ++ (record { at = length p.cells; cells = vs }) ∷ [];
}

-- a routine that is entered: the cells of its frame without copies, its link, and what is passed
pub record Entering : Type 0 where
  pub routine : ℕ
  pub cells : ℕ
  pub link : Value
  pub passed : Passed

abbrev pub copied : List ArrayCopy → List Value
copied cs = flat_map (λ (c : ArrayCopy). c.cells) cs

-- the cells of its frame, with the copies
abbrev pub cells_entered : Entering → ℕ
cells_entered e = e.cells + length (copied e.passed.copies)

-- Each copy has its address: they stand one after the other from an address on.
abbrev pub placed : (address : ℕ) → List ArrayCopy → List Value → List Value
placed address [] cells = cells
placed address (c ∷ cs) cells = placed (address + length c.cells) cs (slice_set cells c.at (Value.Place address))

-- The arguments of a call whose frame begins at a base: the link, the cells of the parameters, and the cells of the
-- copies, which stand in the frame after all others.
abbrev pub args_at : Entering → (base : ℕ) → List Value
args_at e base =
    e.link ∷ placed (base + e.cells) e.passed.copies e.passed.cells ++ copied e.passed.copies
