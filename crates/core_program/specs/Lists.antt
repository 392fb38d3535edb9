-- Lists in which something is looked for: one search for both kinds of them, and what is kept of the long ones.
use Rattle.std.specs.Prelude.{if◌then◌else◌, ◌&&◌, ◌<◌, ◌≡◌, ◌≤◌, ℕ, ℤ, Bool, List, None, Option, Some, false, length}
use Rattle.std.specs.Prelude.{nat_eq, pos, slice_get, unwrap_or}
use Rattle.std.specs.{BTreeMap.BTreeMap, BTreeMap.get, declared.cmp.Ordering.Ordering}
use Rattle.std.specs.Ordering.{int_cmp, int_eq, nat_cmp, ordering_then}
use Rattle.core_program.specs.Choices.{Sought, along, on_to}
use Rattle.core_program.specs.ProgramRows.{ProgramRows, row_at}
use Rattle.core_program.specs.declared.rows.{ItemRow.ItemRow, Row.Row, StatementRow.StatementRow}
use Rattle.core_program.specs.declared.search.{ListItem.ListItem, ListKind.ListKind, Said.Said}

-- ---- what an item is found by, and what is found with it

abbrev pub constant_in : Row → Option ListItem
constant_in (Row.Item (ItemRow.Choice constant chosen next)) =
    Some (record { key = Some constant; found = chosen; next = next })
constant_in r = None

abbrev pub label_in : Row → Option ℤ
label_in (Row.Statement (StatementRow.Labelled label inner)) = Some (pos label)
label_in r = None

abbrev pub statement_in : ProgramRows → (at : ℕ) → Row → Option ListItem
statement_in p at (Row.Item (ItemRow.Element s next)) =
    Some (record { key = label_in (row_at p s); found = at; next = next })
statement_in p at r = None

abbrev pub item_at : ProgramRows → ListKind → ℕ → Option ListItem
item_at p ListKind.Constants at = constant_in (row_at p at)
item_at p ListKind.Statements at = statement_in p at (row_at p at)

abbrev pub is_key : Option ℤ → ℤ → Bool
is_key None wanted = false
is_key (Some key) wanted = int_eq key wanted

-- ---- the search

abbrev pub looked : (at : ℕ) → Option ListItem → (wanted : ℤ) → (ℕ → Sought) → Sought
looked at None wanted go = None
looked at (Some item) wanted go = if is_key item.key wanted then Some (Some item.found) else on_to at item.next go

abbrev pub sought_along : ProgramRows → ListKind → (n at : ℕ) → ℤ → Sought
sought_along p kind n at wanted = along (λ at go. looked at (item_at p kind at) wanted go) n at

-- what is found, where `go` tells of the items after
abbrev pub found_by : Said → (ℕ → Sought) → Sought
found_by (Said.Found s) go = Some (Some s)
found_by (Said.After next) go = go next
found_by Said.Nothing go = Some None
found_by Said.Broken go = None

-- the item that is looked at next stands after this one
abbrev pub Rises : (at : ℕ) → Said → Type 0
Rises at (Said.After next) = at < next
Rises at s = Unit {0}

-- ---- long lists

-- the item at which the tail of a long list begins, by the list's first item; 0 for all else
abbrev pub tail_at : List ℕ → ℕ → ℕ
tail_at tails first = unwrap_or (slice_get tails first) 0

abbrev pub key_cmp : ℕ × ℤ → ℕ × ℤ → Ordering
key_cmp = λ x y. ordering_then (nat_cmp x.0 y.0) (int_cmp x.1 y.1)

-- what is found in front of a tail
abbrev pub found_at : BTreeMap (ℕ × ℤ) ℕ → (tail : ℕ) → ℤ → Option ℕ
found_at found tail wanted = get key_cmp found (tail, wanted)

-- what is found in front of a tail, or else in it
abbrev pub or_in_tail : Option ℕ → Sought → Sought
or_in_tail None rest = rest
or_in_tail (Some found) rest = Some (Some found)

-- Of each long list what is found is the first item in it that has the key.
abbrev pub AreLong : ProgramRows → ListKind → (tails : List ℕ) → (found : ℕ → ℤ → Option ℕ) → Type 0
AreLong p kind tails found = (first : ℕ) (wanted : ℤ) → 0 < tail_at tails first
    → sought_along p kind (length p.rows) first wanted
    ≡ or_in_tail (found (tail_at tails first) wanted) (sought_along p kind (length p.rows) (tail_at tails first) wanted)

-- An item comes in front of a tail, before all that are there.
abbrev pub Added : (tail : ℕ) → ListItem → (old new : ℕ → ℤ → Option ℕ) → Type 0
Added tail item old new = (t : ℕ) (wanted : ℤ) →
    new t wanted ≡ (if is_key item.key wanted && nat_eq tail t then Some item.found else old t wanted)

-- The long lists that begin at a row or after it.
pub record LongFrom (p : ProgramRows) (kind : ListKind) (at : ℕ) (tails : List ℕ) (found : ℕ → ℤ → Option ℕ) : Type 0
  where
    pub size : length tails ≡ length p.rows
    pub lists : AreLong p kind tails found
    pub rows : (a : ℕ) → 0 < tail_at tails a → at ≤ a
    -- each tail is that of one list
    pub apart : (a b : ℕ) → 0 < tail_at tails a → tail_at tails a ≡ tail_at tails b → a ≡ b
    pub later : (a : ℕ) → 0 < tail_at tails a → at ≤ tail_at tails a
    pub fresh : (tail : ℕ) (wanted : ℤ) → tail < at → found tail wanted ≡ None
