-- Whole tables have the program block.
use Rattle.std.proofs.Common.{◌<◌, ◌∷◌, ◌≡◌, [], List, None, Some, arith, length, slice_get}
use Rattle.core_program.specs.{ProgramRows.ProgramRows, ProgramRows.routine_at, declared.program.Routine.Routine}

first_inside : (rs : List Routine) (r : Routine) → slice_get rs 0 ≡ Some r → 0 < length rs
first_inside [] r h = absurd (let z : None ≡ Some r = h in cc)
first_inside (x ∷ xs) r h = omega arith

pub block-there : (p : ProgramRows) (r : Routine) → routine_at p 0 ≡ Some r → 0 < length p.routines
block-there p r h = first_inside p.routines r h

pub ruleset block_there = (block-there)
