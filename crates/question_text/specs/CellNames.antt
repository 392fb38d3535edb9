-- The name by which the card of a call prints a cell, and which of the cells that the call changed has a name.
use Rattle.std.specs.Prelude.{ℕ, List, None, Option, Some, find, option_map, slice_get}
use Rattle.std.specs.Str.{bytes_eq}
use Rattle.cell_value.specs.{Effects.changes_of, declared.entries.Change.Change}
use Rattle.call_tree.specs.{Told.part_of, declared.records.Call.Call}
use Rattle.cell_names.specs.Names.{Scene, root_at, root_text}
use Rattle.question_text.specs.Cards.{Recorded, scene_of}

abbrev pub name_in : Scene → (address : ℕ) → List ℕ
name_in s address = root_text s None address (root_at s address)

-- the name by which the card of call k of a run prints the cell at an address
unfoldable pub cell_name : Recorded → (k : ℕ) → (address : ℕ) → List ℕ
cell_name r k address = name_in (scene_of r k) address

-- the first of some changes that is of a cell of this name
abbrev pub change_named : Recorded → (k : ℕ) → (name : List ℕ) → List (ℕ × Change) → Option (ℕ × Change)
change_named r k name changes = find (λ x. bytes_eq (cell_name r k x.0) name) changes

abbrev pub cell_named_by : Recorded → (k : ℕ) → (name : List ℕ) → Option Call → Option ℕ
cell_named_by r k name None = None
cell_named_by r k name (Some call) =
    option_map (λ x. x.0) (change_named r k name (changes_of call.entry.top (part_of r.log call)))

-- The cell that call k of a run changed and its card prints by this name. Where two have it, as hidden tags of one
-- record do, it is the one of least address, since changes rise by address.
unfoldable pub cell_named : Recorded → (k : ℕ) → (name : List ℕ) → Option ℕ
cell_named r k name = cell_named_by r k name (slice_get r.calls k)
