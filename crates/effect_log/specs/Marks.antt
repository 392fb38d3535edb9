-- What an entry of the log changes in what was found of each address, and what the numbers of entries stand for.
use Rattle.std.specs.Prelude.{if◌then◌else◌, ◌&&◌, ◌++◌, ◌+◌, ◌==◌, ◌≡◌, ℕ, List, None, Option, Some, false, is_some}
use Rattle.std.specs.Prelude.{max, nat_le, nat_lt, option_to_list, slice_get, true}
use Rattle.std.specs.List.{before_first, filter_map}
use Rattle.cell_value.specs.Effects.{asked_by, byte_by, change_at, change_by, given_of, head_of, is_shared, looked_by}
use Rattle.cell_value.specs.Effects.{looked_of, made_by, made_of, read_by, seen_by, taken_by, taken_of}
use Rattle.cell_value.specs.declared.entries.{Change.Change, Seen.Seen, Touch.Touch}
use Rattle.cell_value.specs.declared.entries.Touch.TheVariants.{Drop, Has, Make, Read, Write}
use Rattle.effect_log.specs.{Pages.cell_at, Paging.blank_cell}
use Rattle.effect_log.specs.declared.{cells.Cell.Cell, cells.Pages.Pages, paged.Found.Found}

-- the first number before a change: another one is the first if there is none yet and nothing was changed
abbrev pub first_mark : Option ℕ → Option ℕ → ℕ → Option ℕ
first_mark (Some change) mark number = mark
first_mark None (Some first) number = Some first
first_mark None None number = Some number

-- the cell after an entry that reads it, that asks for it, and that changes it
abbrev pub read_mark : ℕ → Cell → Cell
read_mark number cell = record {
  read = first_mark cell.change cell.read number;
  answer = cell.answer;
  change = cell.change;
}

abbrev pub answer_mark : ℕ → Cell → Cell
answer_mark number cell = record {
  read = cell.read;
  answer = first_mark cell.change cell.answer number;
  change = cell.change;
}

abbrev pub change_mark : ℕ → Cell → Cell
change_mark number cell = record { read = cell.read; answer = cell.answer; change = Some number }

-- the cell of each address from `first` to below `end` after an entry that changes it
abbrev pub block_mark : ℕ → ℕ → ℕ → ℕ → Cell → Cell
block_mark number first end addr cell = if nat_le first addr && nat_lt addr end then change_mark number cell else cell

-- the cell of an address after the touch with the number
abbrev pub cell_after : ℕ → Touch → ℕ → Cell → Cell
cell_after number (Read at value) addr cell = if at == addr then read_mark number cell else cell
cell_after number (Has at there) addr cell = if at == addr then answer_mark number cell else cell
cell_after number (Write at value) addr cell = if at == addr then change_mark number cell else cell
cell_after number (Make first cells kind) addr cell = block_mark number first (first + cells) addr cell
cell_after number (Drop first cells) addr cell = block_mark number first (first + cells) addr cell
cell_after number _ addr cell = cell

-- the cells of the addresses that a call shares are changed so, and no others
pub record MarksCells (base : ℕ) (mark : ℕ → Cell → Cell) (old new : Pages) : Type 0 where
  pub at : (addr : ℕ) → cell_at new addr ≡ (if is_shared base addr then mark addr (cell_at old addr) else
      cell_at old addr)

-- an entry of the log: its number and its touch
pub record Logged : Type 0 where
  pub number : ℕ
  pub touch : Touch

-- the entry is taken in
pub record PagesTakeIn (base place : ℕ) (entry : Logged) (old new : Found) : Type 0 where
  pub cells : MarksCells base (cell_after entry.number entry.touch) old.pages new.pages
  pub made : new.made ≡ old.made + made_by entry.touch
  pub looked : new.looked ≡ max old.looked (looked_by place entry.touch)
  pub taken : new.taken ≡ old.taken + taken_by entry.touch
  pub given : new.given ≡ old.given ++ option_to_list (byte_by entry.touch)

-- the entry of the log that a number stands for, and what a function says of an entry
abbrev pub touch_numbered : List Touch → Option ℕ → Option Touch
touch_numbered log None = None
touch_numbered log (Some number) = slice_get log number

abbrev pub shown : {X : Type 0} → (Touch → Option X) → Option Touch → Option X
shown f None = None
shown f (Some touch) = f touch

-- what is seen of an address by its cell, and what it is changed to
abbrev pub seen_in : List Touch → ℕ → Cell → Option Seen
seen_in log addr cell = seen_by (shown (read_by addr) (touch_numbered log cell.read))
    (shown (asked_by addr) (touch_numbered log cell.answer))

abbrev pub changed_in : List Touch → ℕ → Cell → Option Change
changed_in log addr cell = shown (change_by addr) (touch_numbered log cell.change)

-- what the first touch says before the first that changes the address
abbrev pub first_before : {X : Type 0} → (Touch → Option X) → ℕ → List Touch → Option X
first_before f addr touches = head_of (filter_map f (before_first (λ touch. is_some (change_by addr touch)) touches))

-- the number is that of the entry that says this, if there is anything to say
pub record IsNumberOf {X : Type 0} (log : List Touch) (f : Touch → Option X) (number : Option ℕ) (said : Option X)
    : Type 0 where
  pub there : is_some number ≡ is_some said
  pub says : shown f (touch_numbered log number) ≡ said

-- the cell has all that these touches have of the address
pub record IsMarked (log touches : List Touch) (addr : ℕ) (cell : Cell) : Type 0 where
  pub read : IsNumberOf log (read_by addr) cell.read (first_before (read_by addr) addr touches)
  pub answer : IsNumberOf log (asked_by addr) cell.answer (first_before (asked_by addr) addr touches)
  pub change : IsNumberOf log (change_by addr) cell.change (change_at addr touches)

-- the counts and the bytes that these touches have, with the items that are looked at counted from `place`
pub record HasCounts (place : ℕ) (touches : List Touch) (found : Found) : Type 0 where
  pub made : found.made ≡ made_of touches
  pub looked : found.looked ≡ looked_of place touches
  pub taken : found.taken ≡ taken_of touches
  pub given : found.given ≡ given_of touches

-- all that these touches have for a call whose frame begins at `base`
pub record PagesHold (base place : ℕ) (log touches : List Touch) (found : Found) : Type 0 where
  pub cells : (addr : ℕ) → is_shared base addr ≡ true → IsMarked log touches addr (cell_at found.pages addr)
  pub others : (addr : ℕ) → is_shared base addr ≡ false → cell_at found.pages addr ≡ blank_cell
  pub counts : HasCounts place touches found
