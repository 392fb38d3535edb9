-- What the texts on a call are printed from.
use Rattle.std.specs.Prelude.{◌≡◌, ℕ, List, Some, length, slice_get}
use Rattle.cell_value.specs.Effects.{changes_of, given_of, looked_of, reads_of, taken_of}
use Rattle.cell_value.specs.declared.entries.Touch.{Touch}
use Rattle.effect_log.specs.declared.by_maps.Footprint.{Footprint}
use Rattle.call_tree.specs.{Told.part_of, declared.records.Call.Call}
use Rattle.cell_names.specs.{Places.finds, declared.places.PlacedPart.PlacedPart}
use Rattle.question_text.specs.{Cards.Recorded, Frames.opened_from, declared.prepared.CardParts.CardParts}

-- these are found as the calls that are open while call k runs
abbrev pub AreOpenedIn : Recorded → (k : ℕ) → List PlacedPart → Type 0
AreOpenedIn r k opened = finds opened ≡ finds (opened_from r.calls (length r.calls) (Some k))

-- this is what a call did, by its part of the log
pub record IsDoneIn (touches : List Touch) (call : Call) (done : Footprint) : Type 0 where
  pub reads : done.reads ≡ reads_of call.entry.top touches
  pub changes : done.changes ≡ changes_of call.entry.top touches
  pub looked : done.looked ≡ looked_of call.entry.place touches
  pub taken : done.taken ≡ taken_of touches
  pub given : done.given ≡ given_of touches

-- these are the parts of the card of call k
pub record AreParts (r : Recorded) (k : ℕ) (parts : CardParts) : Type 0 where
  pub opened : AreOpenedIn r k parts.opened
  pub done : (call : Call) → slice_get r.calls k ≡ Some call → IsDoneIn (part_of r.log call) call parts.done
