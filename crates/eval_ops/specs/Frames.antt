-- What the beginning and the end of a call do with its frame.
use Rattle.std.specs.Prelude.{if◌then◌else◌, ◌+◌, [], List, nat_lt}
use Rattle.cell_value.specs.declared.{values.Value.Value, ways_out.Which.TheVariants.Stack}
use Rattle.core_program.specs.{Run.frame_size, Run.with_frame, State.State, State.stack_end}
use Rattle.core_program.specs.Acts.{ActResult, Limited, OutOfSteps, Stops, Went, spent}
use Rattle.core_program.specs.declared.program.Routine.{Routine}

-- A frame of a routine is made at the top. One that would end above the stack is not made, nor one that needs more
-- steps than are left.
abbrev pub framing : Routine → (args : List Value) → State → ActResult (Unit {0})
framing r args σ =
    if nat_lt stack_end (σ.top + frame_size r args) then Stops (Limited Stack) [] σ
    else if nat_lt σ.steps (frame_size r args) then Stops OutOfSteps [] (spent σ)
    else Went tt [] (with_frame r args σ)
