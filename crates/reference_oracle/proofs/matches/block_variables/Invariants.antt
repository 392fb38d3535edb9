use Rattle.std.proofs.Common.{◌++◌, ◌-◌, ◌≡◌, ℕ, Option, filter_map, length}
use Rattle.std.specs.List.{range_with_len}
use Rattle.core_program.specs.ProgramRows.{row_at}
use Rattle.reference_oracle.proofs.matches.block_variables.Given as goal
use Rattle.reference_oracle.specs.{Matches.block_variable_in, Matches.block_variables, declared.matches.BlockVariable.BlockVariable}

abbrev pub invariant-tokens : goal.invariant-tokens
invariant-tokens l =
    let variable : ℕ → Option BlockVariable = λ token. block_variable_in token (row_at l.program token) in
    l.variables.items ++ filter_map variable (range_with_len l.token (length l.program.rows - l.token)) ≡ block_variables l.program
