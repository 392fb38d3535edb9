-- Vectors and boxes as they would lie in no memory.
use Rattle.std.proofs.Common.{◌<◌, ◌^◌, Box, Global, List, Vec, le_refl, length, refl}
use denote.RawPtr.{null_ptr}

abbrev no_memory : Global
no_memory = record { memory = record { seal = tt } }

abbrev pub boxed : {X : Type 0} → X → Box X Global
boxed x = record { ptr = null_ptr; alloc = no_memory; value = x }

abbrev pub Short : {X : Type 0} → List X → Type 0
Short xs = length xs < 2 ^ 63

abbrev pub held : {X : Type 0} (xs : List X) → Short xs → Vec X Global
held xs short = record {
  ptr = null_ptr;
  len = length xs;
  cap = length xs;
  alloc = no_memory;
  items = xs;
  ok = (refl, le_refl (length xs));
  small = short;
}
