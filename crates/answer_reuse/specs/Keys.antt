-- The key of a call: what it was given, what it did, entry by entry, and what it saw of the input. Calls of one run
-- that ended by themselves are alike exactly where their keys are the same, since what a call does follows from what it
-- is given and finds. A key is told whatever stands in a row, so that keys can be put in order.
use Rattle.std.specs.Prelude.{if◌then◌else◌, ◌%◌, ◌*◌, ◌+◌, ◌-◌, ◌^◌, ◌∷◌, ◌≡◌, [], ℕ, List, None, Option, Some}
use Rattle.std.specs.Prelude.{bit_xor, fold, length, map, nat_lt, slice_get}
use Rattle.std.specs.{Cmp.Lexicographic.slice_cmp, Int.rotate_left, Int.w64, Option.option_cmp, Option.option_map}
use Rattle.std.specs.{Ordering.nat_cmp, Ordering.ordering_then, declared.cmp.Ordering.Ordering}
use Rattle.cell_value.specs.{Effects.looked_of, declared.entries.Touch.Touch, declared.values.Value.Value}
use Rattle.call_tree.specs.{Told.IsTold, Told.part_of, declared.records.Call.Call}
use Rattle.program_run.specs.declared.history.History.{History}
use Rattle.answer_book.specs.Numbers.{numbers_below}
use Rattle.answer_reuse.specs.Figures.{item_figure, touch_figure, value_figure}
use Rattle.answer_reuse.specs.declared.keys.Keyed.{Keyed}

-- ---- the parts of a key

-- how many entries the log has of a call
abbrev pub touches_made : Call → ℕ
touches_made row = row.exit.mark - row.entry.mark

-- where a call made cells of the heap; 0 if it made none, since no heap begins there
abbrev pub made_at : Call → ℕ
made_at row = if nat_lt row.entry.fresh row.exit.fresh then row.entry.fresh else 0

-- its routine, where its frame begins, where it made cells, and how much there is of all that follows
abbrev pub key_head : Call → (looked : ℕ) → List ℕ
key_head row looked =
    row.routine ∷ row.entry.top ∷ made_at row ∷ length row.args ∷ touches_made row ∷ looked ∷ 0 ∷ []

abbrev pub args_key : List Value → List (List ℕ)
args_key args = map (value_figure 0 0) args

-- a touch by its place among those of the call
abbrev pub touch_key : (log : List Touch) → Call → ℕ → Option (List ℕ)
touch_key log row i = option_map (touch_figure row.entry.place) (slice_get log (row.entry.mark + i))

abbrev pub touches_key : (log : List Touch) → Call → List (Option (List ℕ))
touches_key log row = map (touch_key log row) (numbers_below (touches_made row))

-- the items that it looked at
abbrev pub item_key : (items : List ℕ) → (place : ℕ) → ℕ → List ℕ
item_key items place i = item_figure (slice_get items (place + i))

abbrev pub items_key : (items : List ℕ) → (place looked : ℕ) → List (List ℕ)
items_key items place looked = map (item_key items place) (numbers_below looked)

pub record Key : Type 0 where
  pub head : List ℕ
  pub args : List (List ℕ)
  pub touches : List (Option (List ℕ))
  pub items : List (List ℕ)

abbrev pub key_of : History → Keyed → Key
key_of h k = record {
  head = key_head k.row.now k.looked;
  args = args_key k.row.now.args;
  touches = touches_key h.log k.row.now;
  items = items_key h.input k.row.now.entry.place k.looked;
}

-- ---- which of two keys comes first

abbrev pub lists_order : (one other : List (List ℕ)) → Ordering
lists_order one other = slice_cmp (slice_cmp nat_cmp) one other

abbrev pub touches_order : (one other : List (Option (List ℕ))) → Ordering
touches_order one other = slice_cmp (option_cmp (slice_cmp nat_cmp)) one other

abbrev pub work_order : (one other : Key) → Ordering
work_order one other =
    ordering_then (touches_order one.touches other.touches) (lists_order one.items other.items)

abbrev pub contents_order : (one other : Key) → Ordering
contents_order one other = ordering_then (lists_order one.args other.args) (work_order one other)

abbrev pub key_order : (one other : Key) → Ordering
key_order one other =
    ordering_then (slice_cmp nat_cmp one.head other.head) (contents_order one other)

unfoldable pub compare_keys : History → (one other : Keyed) → Ordering
compare_keys h one other = key_order (key_of h one) (key_of h other)

-- ---- the digest of a key: whatever it is, keys that are the same have the same one

abbrev pub mixed : (digest number : ℕ) → ℕ
mixed digest number = (bit_xor (rotate_left w64 digest 5) number * 11400714819323198485) % 2 ^ 64

-- a figure as one number
abbrev pub folded : (number part : ℕ) → ℕ
folded number part = bit_xor (rotate_left w64 number 34) part

abbrev pub figure_number : List ℕ → ℕ
figure_number figure = fold folded 0 figure

abbrev pub mixed_figure : (digest : ℕ) → List ℕ → ℕ
mixed_figure digest figure = mixed digest (figure_number figure)

abbrev pub args_digest : (digest : ℕ) → List Value → ℕ
args_digest digest args = fold (λ d arg. mixed_figure d (value_figure 0 0 arg)) digest args

abbrev pub if_figure : (digest : ℕ) → Option (List ℕ) → ℕ
if_figure digest (Some figure) = mixed_figure digest figure
if_figure digest None = digest

abbrev pub touches_digest : (digest : ℕ) → List (Option (List ℕ)) → ℕ
touches_digest digest touches = fold if_figure digest touches

-- the items have no part in it: where they differ, what is done mostly does
abbrev pub digest_of : History → Keyed → ℕ
digest_of h k =
    mixed_figure (args_digest (touches_digest 0 (touches_key h.log k.row.now)) k.row.now.args)
    (key_head k.row.now k.looked)

-- ---- the keys of the calls of a run

-- a call of a run is keyed by what it did
pub record IsKeyed (h : History) (k : Keyed) : Type 0 where
  pub told : IsTold h.log h.input k.row.now
  pub looked : k.looked ≡ looked_of k.row.now.entry.place (part_of h.log k.row.now)
  pub digest : k.digest ≡ digest_of h k
