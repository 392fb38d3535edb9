-- What is found in frames, in records and in the heap by its place.
use Rattle.std.specs.Prelude.{◌++◌, ◌∷◌, ◌≡◌, [], ℕ, List, Option, flat_map, length, slice_index_or}
use Rattle.cell_value.specs.declared.entries.Touch.{Touch, TheVariants.Make}
use Rattle.core_program.specs.ProgramRows.{ProgramRows}
use Rattle.cell_names.specs.{Layouts.frame_parts, Layouts.part, Places.finds, Records.record_parts}
use Rattle.cell_names.specs.declared.places.PlacedPart.{PlacedPart}

-- the block of the heap that a touch makes, with its type as its number
abbrev pub block_by : Touch → List PlacedPart
block_by (Make first cells kind) = part first kind ∷ []
block_by touch = []

-- the blocks of the heap that are made, in order
abbrev pub blocks_of : List Touch → List PlacedPart
blocks_of touches = flat_map block_by touches

-- what has a place of a routine's frame, a place of a record, and an address of the heap
pub record Finding : Type 0 where
  pub frame : (routine : ℕ) → (place : ℕ) → Option PlacedPart
  pub component : (owner : ℕ) → (place : ℕ) → Option PlacedPart
  pub block : (address : ℕ) → Option PlacedPart

-- what is found in a program of this many tokens, in whose run this was done
abbrev pub finding_of : ProgramRows → (tokens : ℕ) → List Touch → Finding
finding_of p tokens log = record {
  frame = λ routine. finds (frame_parts p routine);
  component = λ owner. finds (record_parts p tokens owner);
  block = finds (blocks_of log);
}

-- the lists in which it is found
pub record NameLists : Type 0 where
  pub frames : List (List PlacedPart)
  pub records : List (List PlacedPart)
  pub blocks : List PlacedPart

abbrev pub list_at : List (List PlacedPart) → ℕ → List PlacedPart
list_at lists n = slice_index_or lists n []

-- what is found in such lists
abbrev pub finding_in : NameLists → Finding
finding_in lists = record {
  frame = λ routine. finds (list_at lists.frames routine);
  component = λ owner. finds (list_at lists.records owner);
  block = finds lists.blocks;
}

-- each of some lists gets more at its end
pub record Adds (more : (n : ℕ) → List PlacedPart) (old new : List (List PlacedPart)) : Type 0 where
  pub as_many : length new ≡ length old
  pub finds_more : (n : ℕ) → finds (list_at new n) ≡ finds (list_at old n ++ more n)
