-- What calls are compared by, as figures: seven numbers that tell one value, touch or item from every other.
use Rattle.std.specs.Prelude.{if◌then◌else◌, ◌+◌, ◌-◌, ◌∷◌, [], ℕ, ℤ, Bool, List, None, Option, Some, false, int_lt}
use Rattle.std.specs.Prelude.{pos, true, unsigned_abs}
use Rattle.cell_value.specs.declared.{entries.Touch.Touch, values.Value.Value}

abbrev pub sign_of : ℤ → ℕ
sign_of n = if int_lt n (pos 0) then 1 else 0

-- the numbers of a value: that of its kind, and those that it holds
abbrev pub value_numbers : Value → List ℕ
value_numbers Value.Undefined = 0 ∷ 0 ∷ 0 ∷ 0 ∷ 0 ∷ []
value_numbers (Value.Number n) = 1 ∷ sign_of n ∷ unsigned_abs n ∷ 0 ∷ 0 ∷ []
value_numbers (Value.Bits set) = 2 ∷ set.words
value_numbers Value.Nil = 3 ∷ 0 ∷ 0 ∷ 0 ∷ 0 ∷ []
value_numbers (Value.Heap to) = 4 ∷ to ∷ 0 ∷ 0 ∷ 0 ∷ []
value_numbers (Value.Place to) = 5 ∷ to ∷ 0 ∷ 0 ∷ 0 ∷ []
value_numbers (Value.Frame to) = 6 ∷ to ∷ 0 ∷ 0 ∷ 0 ∷ []
value_numbers (Value.Routine routine frame) = 7 ∷ routine ∷ frame ∷ 0 ∷ 0 ∷ []

-- a value at an address, under the number of what was done there
abbrev pub value_figure : (act addr : ℕ) → Value → List ℕ
value_figure act addr v = act ∷ addr ∷ value_numbers v

-- a touch by a call that found the input at a place: a look at the input is told from there
abbrev pub touch_figure : (place : ℕ) → Touch → List ℕ
touch_figure place (Touch.Read addr v) = value_figure 1 addr v
touch_figure place (Touch.Has addr there) = 2 ∷ addr ∷ (if there then 1 else 0) ∷ 0 ∷ 0 ∷ 0 ∷ 0 ∷ []
touch_figure place (Touch.Write addr v) = value_figure 3 addr v
touch_figure place (Touch.Make first cells kind) = 4 ∷ first ∷ cells ∷ kind ∷ 0 ∷ 0 ∷ 0 ∷ []
touch_figure place (Touch.Drop first cells) = 5 ∷ first ∷ cells ∷ 0 ∷ 0 ∷ 0 ∷ 0 ∷ []
touch_figure place (Touch.Look at) = 6 ∷ (at + 1 - place) ∷ 0 ∷ 0 ∷ 0 ∷ 0 ∷ 0 ∷ []
touch_figure place (Touch.Take items) = 7 ∷ items ∷ 0 ∷ 0 ∷ 0 ∷ 0 ∷ 0 ∷ []
touch_figure place (Touch.Give byte) = 8 ∷ byte ∷ 0 ∷ 0 ∷ 0 ∷ 0 ∷ 0 ∷ []

-- an item of the input, or its end
abbrev pub item_figure : Option ℕ → List ℕ
item_figure (Some item) = 9 ∷ item ∷ 0 ∷ 0 ∷ 0 ∷ 0 ∷ 0 ∷ []
item_figure None = 10 ∷ 0 ∷ 0 ∷ 0 ∷ 0 ∷ 0 ∷ 0 ∷ []

-- whether a touch has the same figure wherever in the input a call began
abbrev pub is_settled : Touch → Bool
is_settled (Touch.Look at) = false
is_settled t = true
