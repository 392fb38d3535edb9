-- What is kept stands for what is wanted, before a touch and before a call that was made, if it did after.
use Rattle.std.proofs.Common.{if◌then◌else◌, ◌+◌, ◌-◌, ◌<◌, ◌∙◌, ◌∷◌, ◌≡◌, [], ℕ, List, Some, ap, arith, drop, false, is_some, nat_lt, slice_range, subst, sym}
use Rattle.std.{proofs.Common.take, proofs.Common.true, specs.List.slice_get}
use Rattle.cell_value.specs.{Effects.change_by, Effects.heap_end, Effects.looked_of, Effects.made_of, declared.entries.Touch.Touch}
use Rattle.core_program.specs.Run.{Call}
use Rattle.effect_log.specs.declared.by_maps.Footprint.{Footprint}
use Rattle.output_slice.proofs.{NeedsBefore.changed_key, NeedsBefore.read_key, PairsAdded.range_first}
use Rattle.output_slice.specs.{CellSets.has_cell, Keys.has_key, Needed.AreWanted, Needed.IsEffectOfCall, Outputs.has_output}
use Rattle.output_slice.specs.Backward.{Wanted, asks_heap, asks_input, before_child, before_own, before_touches, is_some_of, looks, met_cell}
use Rattle.output_slice.specs.declared.{cell_set.CellSet.CellSet, needs.Needs.Needs, outputs.Output.Output, outputs.Output.TheVariants.Cell}

-- ---- a touch

pub wanted_before : (t : Touch) (old new : Needs)
    → ((a : ℕ) → a < heap_end → has_cell new.cells a ≡ (if looks a t then true else if is_some (change_by a t) then false else has_cell old.cells a))
    → new.input ≡ (if asks_input t then true else old.input) → new.heap ≡ (if asks_heap t then true else old.heap)
    → (w : Wanted) → AreWanted old w → AreWanted new (before_own t w)
wanted_before t old new e i j w h = record {
  cells = λ a l. e a l ∙ ap (λ b. if looks a t then true else if is_some (change_by a t) then false else b) (h.cells a l);
  input = i ∙ ap (λ b. if asks_input t then true else b) h.input;
  heap = j ∙ ap (λ b. if asks_heap t then true else b) h.heap;
}

-- one touch more, before those that were passed
pub touch_passed : (log : List Touch) (i to : ℕ) (t : Touch) → slice_get log i ≡ Some t → i < to → (old new : Needs)
    → ((a : ℕ) → a < heap_end → has_cell new.cells a ≡ (if looks a t then true else if is_some (change_by a t) then false else has_cell old.cells a))
    → new.input ≡ (if asks_input t then true else old.input) → new.heap ≡ (if asks_heap t then true else old.heap)
    → (w : Wanted) → AreWanted old (before_touches (slice_range log (i + 1) to) w) → AreWanted new (before_touches (slice_range log i to) w)
touch_passed log i to t e l old new cells input heap w h = subst (λ ts. AreWanted new (before_touches ts w)) (sym (range_first log i to t e l))
    (wanted_before t old new cells input heap (before_touches (slice_range log (i + 1) to) w) h)

-- no touches at all
pub none_before : (log : List Touch) (i : ℕ) (needs : Needs) (w : Wanted) → AreWanted needs w → AreWanted needs (before_touches (slice_range log i i) w)
none_before log i needs w h = subst (λ n. AreWanted needs (before_touches (take n (drop i log)) w)) (let e : 0 ≡ i - i = omega arith in e) h

-- ---- a call that was made

-- where nothing of it is used
pub unused_before : (c : Call) (found : Footprint) (old new : Needs)
    → ((a : ℕ) → a < heap_end → has_cell new.cells a ≡ (if has_key a found.changes then false else has_cell old.cells a))
    → new.input ≡ old.input → new.heap ≡ old.heap → IsEffectOfCall c found → (w : Wanted) → AreWanted old w → AreWanted new (before_child c [] w)
unused_before c found old new e i j f w h = record {
  cells = λ a l. e a l ∙ ap (λ xs. if has_key a xs then false else has_cell old.cells a) f.changes
      ∙ ap (λ b. if b then false else has_cell old.cells a) (changed_key c a l)
      ∙ ap (λ b. if has_output c (Cell a) then false else b) (h.cells a l);
  input = i ∙ h.input;
  heap = j ∙ h.heap;
}

-- and where something is, by the cells once the changed ones are taken out
pub used_before : (c : Call) (found : Footprint) (old new : Needs) (between : CellSet) (u : Output) (us : List Output)
    → ((a : ℕ) → a < heap_end → has_cell between a ≡ (if has_key a found.changes then false else has_cell old.cells a))
    → ((a : ℕ) → a < heap_end → has_cell new.cells a ≡ (if has_key a found.reads then true else has_cell between a))
    → new.input ≡ (if nat_lt 0 found.looked then true else old.input) → new.heap ≡ (if nat_lt 0 found.made then true else old.heap)
    → IsEffectOfCall c found → (w : Wanted) → AreWanted old w → AreWanted new (before_child c (u ∷ us) w)
used_before c found old new between u us d e i j f w h = record {
  cells = λ a l. e a l ∙ ap (λ xs. if has_key a xs then true else has_cell between a) f.reads
      ∙ ap (λ b. if b then true else has_cell between a) (read_key c a l)
      ∙ ap (λ b. if met_cell c a then true else b) (d a l)
      ∙ ap (λ xs. if met_cell c a then true else if has_key a xs then false else has_cell old.cells a) f.changes
      ∙ ap (λ b. if met_cell c a then true else if b then false else has_cell old.cells a) (changed_key c a l)
      ∙ ap (λ b. if met_cell c a then true else if has_output c (Cell a) then false else b) (h.cells a l);
  input = i ∙ ap (λ n. if nat_lt 0 n then true else old.input) f.looked ∙ ap (λ b. if nat_lt 0 (looked_of c.entry.place c.log) then true else b) h.input;
  heap = j ∙ ap (λ n. if nat_lt 0 n then true else old.heap) f.made ∙ ap (λ b. if nat_lt 0 (made_of c.log) then true else b) h.heap;
}

-- the same by whether something of it is used
pub met_before : (c : Call) (found : Footprint) (old new : Needs) (between : CellSet) (us : List Output) → is_some_of us ≡ true
    → ((a : ℕ) → a < heap_end → has_cell between a ≡ (if has_key a found.changes then false else has_cell old.cells a))
    → ((a : ℕ) → a < heap_end → has_cell new.cells a ≡ (if has_key a found.reads then true else has_cell between a))
    → new.input ≡ (if nat_lt 0 found.looked then true else old.input) → new.heap ≡ (if nat_lt 0 found.made then true else old.heap)
    → IsEffectOfCall c found → (w : Wanted) → AreWanted old w → AreWanted new (before_child c us w)
met_before c found old new between [] s d e i j f w h = absurd (let z : ⊥ = cc in z)
met_before c found old new between (u ∷ us) s d e i j f w h = used_before c found old new between u us d e i j f w h

pub unmet_before : (c : Call) (found : Footprint) (old new : Needs) (us : List Output) → is_some_of us ≡ false
    → ((a : ℕ) → a < heap_end → has_cell new.cells a ≡ (if has_key a found.changes then false else has_cell old.cells a))
    → new.input ≡ old.input → new.heap ≡ old.heap → IsEffectOfCall c found → (w : Wanted) → AreWanted old w → AreWanted new (before_child c us w)
unmet_before c found old new [] s e i j f w h = unused_before c found old new e i j f w h
unmet_before c found old new (u ∷ us) s e i j f w h = absurd (let z : ⊥ = cc in z)
