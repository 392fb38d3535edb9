-- The rows of the turns of for statements.
use Rattle.std.specs.Prelude.{None, Option, Some}
use Rattle.cell_value.specs.declared.values.Value.{Value}
use Rattle.core_program.specs.declared.rows.{Row.Row, StatementRow.TheVariants.Turns}
use Rattle.eval_ops.specs.declared.counting.{Counting.Counting, ForProgress.ForProgress}

-- the row of the turns of a for statement
abbrev pub turns_row : Counting → Row
turns_row c = Row.Statement (Turns c.direction c.last c.place c.of c.body)

-- what a row says, if it is that of the turns of a for statement
abbrev pub turns_in : Row → Option Counting
turns_in (Row.Statement (Turns direction last place of' body)) = Some (record {
  direction = direction;
  last = last;
  place = place;
  of = of';
  body = body;
})
turns_in r = None

-- two values, if both are numbers
abbrev pub span_in : Value → Value → Option ForProgress
span_in (Value.Number i) (Value.Number last) = Some (record { value = i; last = last })
span_in i last = None

-- both, if both are there
abbrev pub both_there : Option Counting → Option ForProgress → Option (Counting × ForProgress)
both_there (Some c) (Some s) = Some (c, s)
both_there c s = None
