-- Lists of items, each of which names the next one.
use Rattle.std.specs.Prelude.{ℕ}
use Rattle.core_program.specs.declared.rows.{ItemRow.ItemRow, Row.Row}
use Rattle.check_steps.specs.Known.{row_at}
use Rattle.check_steps.specs.Steps.{◌>>=◌, Step, give, look, put}

-- an array as the actual of a conformant parameter, whose list goes on at this number
abbrev pub array_on : ItemRow → ℕ → ItemRow
array_on (ItemRow.ArrayPlace first access of' end) next = ItemRow.ArrayPlace first access of' next
array_on (ItemRow.ArrayValue first v of' end) next = ItemRow.ArrayValue first v of' next
array_on i next = i

-- an actual parameter, whose list goes on at this number
abbrev pub actual_on : ItemRow → ℕ → ItemRow
actual_on (ItemRow.Value v of' end) next = ItemRow.Value v of' next
actual_on (ItemRow.Place access end) next = ItemRow.Place access next
actual_on (ItemRow.Routine routine levels end) next = ItemRow.Routine routine levels next
actual_on (ItemRow.RoutineFormal formal levels end) next = ItemRow.RoutineFormal formal levels next
actual_on (ItemRow.Written v of' end) next = ItemRow.Written v of' next
actual_on (ItemRow.WrittenWide v of' width end) next = ItemRow.WrittenWide v of' width next
actual_on i next = array_on i next

-- an item, whose list goes on at this number; lists of formal parameters are made from their end
abbrev pub going_on : ItemRow → ℕ → ItemRow
going_on (ItemRow.Element v end) next = ItemRow.Element v next
going_on (ItemRow.Member v end) next = ItemRow.Member v next
going_on (ItemRow.Members first last end) next = ItemRow.Members first last next
going_on (ItemRow.Choice v chosen end) next = ItemRow.Choice v chosen next
going_on i next = actual_on i next

-- the row of the last item of a list, which no item has before the first
abbrev pub row_on : Row → ℕ → Row
row_on (Row.Item i) next = Row.Item (going_on i next)
row_on r next = r

-- the last item of a list, if it has one, goes on at the number of the next
unfoldable pub link : ℕ → ℕ → Step (Unit {0})
link last next = do
  r ← look (λ k. row_on (row_at k last) next)
  put last r

-- One more item at a slot after the last one, with which the list ends: it names 0. Where it stands is given.
unfoldable pub add_item : ℕ → ℕ → ItemRow → Step ℕ
add_item last slot i = do
  _ ← link last slot
  _ ← put slot (Row.Item i)
  give slot
