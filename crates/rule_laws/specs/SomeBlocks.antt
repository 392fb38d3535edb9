-- That something holds of one of a text's blocks (6.2.1).
use Rattle.std.specs.Prelude.{◌⊎◌}
use Rattle.pas_tree.specs.BlockTrees.{BlockTree, BodyTree, RoutineTree, RoutineTrees}
use Rattle.pas_tree.specs.BlockTrees as blocks

abbrev mutual
  -- this holds of the block, or of that of a procedure or function inside of it
  pub SomeBlock : (BlockTree → Type 0) → BlockTree → Type 0
  SomeBlock P (blocks.a_block labels constants types variables routines body) =
      P (blocks.a_block labels constants types variables routines body) ⊎ SomeInside P routines

  pub SomeInside : (BlockTree → Type 0) → RoutineTrees → Type 0
  SomeInside P blocks.end_of_routines = ⊥
  SomeInside P (blocks.more_routines r rest) = SomeOfRoutine P r ⊎ SomeInside P rest

  pub SomeOfRoutine : (BlockTree → Type 0) → RoutineTree → Type 0
  SomeOfRoutine P (blocks.a_routine heading semicolon body last_semicolon) = SomeOfBody P body

  pub SomeOfBody : (BlockTree → Type 0) → BodyTree → Type 0
  SomeOfBody P (blocks.a_directive directive) = ⊥
  SomeOfBody P (blocks.a_block_body b) = SomeBlock P b
