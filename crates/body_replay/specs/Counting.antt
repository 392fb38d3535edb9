-- The steps that a call's own work takes when it is done again.
use Rattle.std.specs.Prelude.{◌+◌, ◌-◌, ◌∷◌, ◌≡◌, ◌≤◌, [], ℕ, List, None, Option, Some, length}
use Rattle.std.specs.List.{slice_get}
use Rattle.cell_value.specs.{Effects.changes_of, declared.entries.Touch.Touch}
use Rattle.call_tree.specs.{Told.part_of, declared.records.Call.Call}
use Rattle.call_tree.specs.declared.events.Event.{Event, TheVariants.Child, TheVariants.Line}
use Rattle.program_run.specs.declared.history.History.{History}

-- the steps that a call took, with those of the calls below it
abbrev pub steps_of : Call → ℕ
steps_of call = call.entry.steps - call.exit.steps

-- how many cells a call changed that it shares with its caller
abbrev pub changes_in : List Touch → Call → ℕ
changes_in log call = length (changes_of call.entry.top (part_of log call))

abbrev pub counted_if_there : (Call → ℕ) → Option Call → ℕ
counted_if_there f None = 0
counted_if_there f (Some call) = f call

-- the sum of a number of each call that was met
abbrev pub sum_of_children : (Call → ℕ) → (calls : List Call) → List Event → ℕ
sum_of_children f calls [] = 0
sum_of_children f calls (Line line ∷ es) = sum_of_children f calls es
sum_of_children f calls (Child number ∷ es) =
    counted_if_there f (slice_get calls number) + sum_of_children f calls es

-- the steps that a call took itself, where these events happened in it
abbrev pub own_steps : (calls : List Call) → Call → List Event → ℕ
own_steps calls call events = steps_of call - sum_of_children steps_of calls events

-- the changes of the effects of the calls that were met
abbrev pub changes_met : History → List Event → ℕ
changes_met h events = sum_of_children (changes_in h.log) h.calls.calls events

-- the steps of the calls that were met
abbrev pub steps_met : History → List Event → ℕ
steps_met h events = sum_of_children steps_of h.calls.calls events

-- the steps that were counted, those that are left, and what has happened
pub record Tally : Type 0 where
  pub counted : ℕ
  pub left : ℕ
  pub events : List Event

-- the tally before a call, by its row, where this many steps were counted before
abbrev pub at_entry : (counted : ℕ) → Call → Tally
at_entry counted call = record { counted = counted; left = call.entry.steps; events = [] }

-- Since the first tally, before which nothing had happened, a step was counted for each step that was taken outside of
-- the calls that were met, and for each change of the effects of these.
pub record CountsEachStep (h : History) (first now : Tally) : Type 0 where
  pub within : steps_met h now.events + now.left ≤ first.left
  pub exact : now.counted + (steps_met h now.events + now.left) ≡
      first.counted + first.left + changes_met h now.events
