-- Whether a state agrees with a call, as a test: the same as `Agrees` of core_program, line by line.
use Rattle.std.specs.Prelude.{◌&&◌, ◌+◌, ◌-◌, ◌==◌, ◌||◌, ◌∷◌, [], ℕ, Bool, List, None, Option, Some, drop, false}
use Rattle.std.specs.Prelude.{is_some, nat_eq, nat_le, not, slice_get, suc, take, true, zero}
use Rattle.std.specs.{FinMap.FinMap, FinMap.get, Ordering.nat_cmp}
use Rattle.cell_value.specs.Effects.{looked_of, made_of, reads_of}
use Rattle.cell_value.specs.declared.{values.Value.Value, ways_out.WayOut.WayOut}
use Rattle.cell_value.specs.declared.entries.Seen.{Seen, TheVariants.Absent, TheVariants.Held, TheVariants.There}
use Rattle.core_program.specs.{Agree.deepest, Apply.steps_taken, Replay.same_value, Run.Call, Run.Outcome}
use Rattle.core_program.specs.State.{State, most_calls, most_depth}
use Rattle.body_replay.specs.Replays.{records_of}

-- whether a call ended by itself, by a jump or by a fault
abbrev pub ended_by_itself : WayOut → Bool
ended_by_itself WayOut.OutOfSteps = false
ended_by_itself (WayOut.Limited which) = false
ended_by_itself way = true

-- whether a cell is as it was seen
abbrev pub is_as_seen : Option Value → Seen → Bool
is_as_seen (Some held) (Held value) = same_value held value
is_as_seen None (Held value) = false
is_as_seen cell There = is_some cell
is_as_seen cell Absent = not (is_some cell)

-- whether all cells are as they were seen
abbrev pub are_as_seen : FinMap nat_cmp Value → List (ℕ × Seen) → Bool
are_as_seen cells [] = true
are_as_seen cells ((addr, seen) ∷ reads) = is_as_seen (get cells addr) seen && are_as_seen cells reads

-- whether two items are the same, or both are the end of an input
abbrev pub is_same_item : Option ℕ → Option ℕ → Bool
is_same_item (Some x) (Some y) = nat_eq x y
is_same_item None None = true
is_same_item x y = false

-- whether this many items of two inputs are the same, each from a place of its own on
abbrev pub are_same_items : (items : List ℕ) (place : ℕ) (others : List ℕ) (from : ℕ) → (looked : ℕ) → Bool
are_same_items items place others from zero = true
are_same_items items place others from (suc n) =
    are_same_items items place others from n
    && is_same_item (slice_get items (place + n)) (slice_get others (from + n))

-- whether a state has room for what a call took and called; `below` are the calls below it
abbrev pub has_room : Call → (below : List Call) → State → Bool
has_room c below σ =
    nat_le (steps_taken c) σ.steps
    && (nat_le (σ.calls + (c.below + 1)) most_calls
    && nat_le (σ.depth + (deepest c below - c.depth)) most_depth)

-- whether a state agrees with a call on all that the call met
unfoldable pub agrees : Call → (below : List Call) → State → Bool
agrees c below σ =
    ended_by_itself c.way
    && ((σ.top == c.entry.top)
    && ((nat_eq (made_of c.log) 0 || (σ.fresh == c.entry.fresh))
    && (are_as_seen σ.cells (reads_of c.base c.log)
    && (are_same_items σ.items σ.place c.entry.items c.entry.place (looked_of c.entry.place c.log)
    && has_room c below σ))))

abbrev pub agrees_at : List Call → (call : ℕ) → Option Call → Option Call → Bool
agrees_at calls call (Some c) (Some onto) = agrees c (take c.below (drop (call + 1) calls)) onto.entry
agrees_at calls call c onto = false

-- whether the record of a call of a run may be put in place of its run where another call of that run was entered
unfoldable pub carries : Outcome → (call onto : ℕ) → Bool
carries x call onto = agrees_at (records_of x) call (slice_get (records_of x) call) (slice_get (records_of x) onto)
