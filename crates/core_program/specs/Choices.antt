-- What is looked for among items, and what a constant chooses.
use Rattle.std.specs.Prelude.{if◌then◌else◌, ℕ, ℤ, None, Option, Some, nat_lt, suc, zero}
use Rattle.std.specs.Ordering.{int_eq}
use Rattle.core_program.specs.{ProgramRows.ProgramRows, ProgramRows.row_at, WholeTables.is_end}
use Rattle.core_program.specs.declared.rows.{ItemRow.ItemRow, Row.Row}

-- What was found in a list, if it is there. There is no answer where the list does not end as it says.
abbrev pub Sought : Type 0
Sought = Option (Option ℕ)

-- in a list that ends nothing is found
abbrev pub unless_end : (at : ℕ) → Sought → Sought
unless_end at found = if is_end at then Some None else found

-- the search goes on at the next item, which stands after the one before it
abbrev pub on_to : (at next : ℕ) → (ℕ → Sought) → Sought
on_to at next go = unless_end next (if nat_lt at next then go next else None)

-- what is found among the items from one on; `n` is how many are looked at
abbrev pub along : (look : ℕ → (ℕ → Sought) → Sought) → (n at : ℕ) → Sought
along look zero at = None
along look (suc n) at = look at (along look n)

-- The statement that a case constant chooses, or the variant that a constant of a variant part chooses, among those
-- from an item on (6.8.3.5, 6.4.3.3).
abbrev pub choose_at : Row → ℕ → ℤ → (ℕ → Sought) → Sought
choose_at (Row.Item (ItemRow.Choice constant chosen next)) at i go =
    if int_eq constant i then Some (Some chosen) else on_to at next go
choose_at r at i go = None

abbrev pub choice_along : ProgramRows → (n at : ℕ) → ℤ → Sought
choice_along p n at i = along (λ at go. choose_at (row_at p at) at i go) n at

abbrev pub choice_of : ProgramRows → (n at : ℕ) → ℤ → Sought
choice_of p n at i = unless_end at (choice_along p n at i)
