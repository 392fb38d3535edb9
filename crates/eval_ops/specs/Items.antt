-- The items of sequences.
use Rattle.std.specs.Prelude.{ℕ, None, Option, Some}
use Rattle.core_program.specs.declared.rows.{ItemRow.ItemRow, Row.Row}

-- a statement of a sequence and the item after it
abbrev pub element_in : Row → Option (ℕ × ℕ)
element_in (Row.Item (ItemRow.Element s next)) = Some (s, next)
element_in r = None
