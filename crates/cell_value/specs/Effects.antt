-- The effect of a call, which stands for its body where the call is judged: what a list of touches shows of the state
-- before them, and what they change in it (Fritzson, Shahmehri, Kamkar and Gyimothy, "Generalized Algorithmic
-- Debugging and Testing", 1992). Each address is looked at by itself.
use Rattle.std.specs.Prelude.{if◌then◌else◌, ◌&&◌, ◌+◌, ◌-◌, ◌<◌, ◌==◌, ◌||◌, ◌∷◌, ◌≤◌, [], ℕ, Bool, List, None, Option}
use Rattle.std.specs.Prelude.{Some, false, fold, is_some, map, max, nat_le, nat_lt, sum_by, true}
use Rattle.std.specs.{List.before_first, List.filter_map, List.range_with_len, Option.option_map}
use Rattle.cell_value.specs.declared.{entries.Touch.Touch, values.Value.Value, values.Value.TheVariants.Undefined}
use Rattle.cell_value.specs.declared.entries.Change.{Change, TheVariants.Gone, TheVariants.Set}
use Rattle.cell_value.specs.declared.entries.Seen.{Seen, TheVariants.Absent, TheVariants.Held, TheVariants.There}
use Rattle.cell_value.specs.declared.entries.Touch.TheVariants.{Drop, Give, Has, Look, Make, Read, Take, Write}

-- The stack has the addresses below the first of these, and the heap those from it to below the second.
abbrev pub heap_start : ℕ
heap_start = 524288

abbrev pub heap_end : ℕ
heap_end = 1048576

-- whether a call whose frame begins at `base` shares the address with its caller: in the stack below its frame, or in
-- the heap
abbrev pub is_shared : ℕ → ℕ → Bool
is_shared base addr = nat_lt addr heap_end && (nat_lt addr base || nat_le heap_start addr)

-- the change of each address from `first` to below `end`
abbrev pub changed_block : ℕ → ℕ → Change → ℕ → Option Change
changed_block first end change addr = if nat_le first addr && nat_lt addr end then Some change else None

-- what a touch leaves the address with, if it is a write there, or makes or drops a block that has it
abbrev pub change_by : ℕ → Touch → Option Change
change_by addr (Write at value) = if at == addr then Some (Set value) else None
change_by addr (Make first cells kind) = changed_block first (first + cells) (Set Undefined) addr
change_by addr (Drop first cells) = changed_block first (first + cells) Gone addr
change_by addr _ = None

-- the value that a touch read at the address
abbrev pub read_by : ℕ → Touch → Option Value
read_by addr (Read at value) = if at == addr then Some value else None
read_by addr _ = None

-- the answer of a touch that asked whether the heap has the address
abbrev pub asked_by : ℕ → Touch → Option Bool
asked_by addr (Has at there) = if at == addr then Some there else None
asked_by addr _ = None

abbrev pub head_of : {X : Type 0} → List X → Option X
head_of [] = None
head_of (x ∷ xs) = Some x

abbrev pub last_of : {X : Type 0} → List X → Option X
last_of [] = None
last_of (x ∷ []) = Some x
last_of (x ∷ y ∷ ys) = last_of (y ∷ ys)

-- what the first read and the first answer show: a read counts before an answer
abbrev pub seen_by : Option Value → Option Bool → Option Seen
seen_by (Some value) asked = Some (Held value)
seen_by None (Some true) = Some There
seen_by None (Some false) = Some Absent
seen_by None None = None

-- what touches none of which changes the address show of it
abbrev pub shown_by : ℕ → List Touch → Option Seen
shown_by addr touches = seen_by (head_of (filter_map (read_by addr) touches))
    (head_of (filter_map (asked_by addr) touches))

-- what the touches show of the address as it was: those before the first that changes it count
unfoldable pub seen_at : ℕ → List Touch → Option Seen
seen_at addr touches = shown_by addr (before_first (λ touch. is_some (change_by addr touch)) touches)

-- what the touches leave the address with: the last that changes it counts
unfoldable pub change_at : ℕ → List Touch → Option Change
change_at addr touches = last_of (filter_map (change_by addr) touches)

-- what a function gives at each address where it gives something, by rising address
unfoldable pub listed : {X : Type 0} → (ℕ → Option X) → List (ℕ × X)
listed f = filter_map (λ addr. option_map (λ x. (addr, x)) (f addr)) (range_with_len 0 heap_end)

-- the same of what is shared by a call whose frame begins at `base`
abbrev pub shared : {X : Type 0} → ℕ → (ℕ → Option X) → ℕ → Option X
shared base f addr = if is_shared base addr then f addr else None

-- the effect of touches of a call whose frame begins at `base`: what they show, and what they change
abbrev pub reads_of : ℕ → List Touch → List (ℕ × Seen)
reads_of base touches = listed (shared base (λ addr. seen_at addr touches))

abbrev pub changes_of : ℕ → List Touch → List (ℕ × Change)
changes_of base touches = listed (shared base (λ addr. change_at addr touches))

-- the cells of the blocks that a touch makes
abbrev pub made_by : Touch → ℕ
made_by (Make first cells kind) = cells
made_by _ = 0

abbrev pub made_of : List Touch → ℕ
made_of touches = sum_by made_by touches

-- the items from `place` to the one that a touch looks at, that one included; the end of the input counts as an item
abbrev pub looked_by : ℕ → Touch → ℕ
looked_by place (Look at) = at + 1 - place
looked_by place _ = 0

-- the same to the furthest one that is looked at
abbrev pub looked_of : ℕ → List Touch → ℕ
looked_of place touches = fold max 0 (map (looked_by place) touches)

-- the items that a touch takes
abbrev pub taken_by : Touch → ℕ
taken_by (Take items) = items
taken_by _ = 0

abbrev pub taken_of : List Touch → ℕ
taken_of touches = sum_by taken_by touches

-- the byte that a touch gives
abbrev pub byte_by : Touch → Option ℕ
byte_by (Give byte) = Some byte
byte_by _ = None

abbrev pub given_of : List Touch → List ℕ
given_of touches = filter_map byte_by touches

-- What is asked of touches for their effect to be counted: each block that is made or dropped lies below the heap's
-- end, and each item that is looked at has a number below the greatest of 32 bits.
abbrev pub IsCountable : Touch → Type 0
IsCountable (Make first cells kind) = first + cells ≤ heap_end
IsCountable (Drop first cells) = first + cells ≤ heap_end
IsCountable (Look at) = at < 4294967295
IsCountable _ = Unit {0}
