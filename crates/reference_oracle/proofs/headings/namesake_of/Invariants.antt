use Rattle.std.proofs.Common.{◌-◌, ◌≡◌, ℕ, Bool, Some, find, length}
use Rattle.std.specs.List.{range_with_len}
use Rattle.core_program.specs.ProgramRows.{routine_at}
use Rattle.reference_oracle.proofs.headings.namesake_of.Given as goal
use Rattle.reference_oracle.specs.{Fitting.is_namesake, Shapes.programs}

abbrev pub invariant-routines : goal.invariant-routines
invariant-routines l =
    let all = length l.reference.routines in
    let named : ℕ → Bool = λ s. is_namesake (programs l.subject l.reference) (Some l.routine) (routine_at l.reference s) in
    find named (range_with_len l.number (all - l.number)) ≡ find named (range_with_len 0 all)
