-- What a function returns.
use Rattle.std.specs.Prelude.{ℤ}
use Rattle.cell_value.specs.{Arithmetic.in_range_of, declared.values.Value.Value}
use Rattle.core_program.specs.{Actions.Action, Run.or_no_result}

-- what a function returns, by the value of its result and the bounds of its result type
abbrev pub returned : (least greatest : ℤ) → Value → Action Value
returned least greatest v = or_no_result (in_range_of v least greatest)
