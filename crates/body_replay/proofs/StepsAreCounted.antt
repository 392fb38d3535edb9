-- The steps that were counted are those of a call's own work, and one for each change by the calls that it made.
use Rattle.std.proofs.Common.{◌++◌, ◌+◌, ◌-◌, ◌∙◌, ◌∷◌, ◌≡◌, ◌≤◌, [], ℕ, List, Some, ap, arith, refl, subst, sym}
use Rattle.std.specs.List.{slice_get}
use Rattle.call_tree.specs.declared.{events.Event.Event, events.Event.TheVariants.Child, events.Event.TheVariants.Line, records.Call.Call}
use Rattle.program_run.specs.declared.history.History.{History}
use Rattle.body_replay.specs.Counting.{CountsEachStep, Tally, changes_in, changes_met, counted_if_there, own_steps, steps_met, steps_of, sum_of_children}

more_line : (f : Call → ℕ) (calls : List Call) (es : List Event) (line : ℕ)
    → sum_of_children f calls (es ++ Line line ∷ []) ≡ sum_of_children f calls es
more_line f calls [] line = refl
more_line f calls (Line other ∷ es) line = more_line f calls es line
more_line f calls (Child number ∷ es) line = ap (λ n. counted_if_there f (slice_get calls number) + n) (more_line f calls es line)

more_child : (f : Call → ℕ) (calls : List Call) (es : List Event) (number : ℕ)
    → sum_of_children f calls (es ++ Child number ∷ []) ≡ sum_of_children f calls es + counted_if_there f (slice_get calls number)
more_child f calls [] number = let e : counted_if_there f (slice_get calls number) + 0 ≡ 0 + counted_if_there f (slice_get calls number) = omega arith in e
more_child f calls (Line line ∷ es) number = more_child f calls es number
more_child f calls (Child other ∷ es) number =
    let a = counted_if_there f (slice_get calls other) in
    let b = sum_of_children f calls es in
    let c = counted_if_there f (slice_get calls number) in
    ap (λ n. a + n) (more_child f calls es number) ∙ (let e : a + (b + c) ≡ a + b + c = omega arith in e)

module _ {h : History} {first old : Tally} (c : CountsEachStep h first old) where
  -- this many steps were taken, and counted
  pub counts_fell : (counted left : ℕ) → left ≤ old.left → counted ≡ old.counted + (old.left - left)
      → CountsEachStep h first (record { counted = counted; left = left; events = old.events })
  counts_fell counted left fell same =
      let w = c.within in
      let b = c.exact in
      record { within = omega (arith, w, fell); exact = omega (arith, b, fell, same) }

  -- what is left is the same
  pub counts_left : (left : ℕ) → left ≡ old.left → CountsEachStep h first (record { counted = old.counted; left = left; events = old.events })
  counts_left left e = subst (λ n. CountsEachStep h first (record { counted = old.counted; left = n; events = old.events })) (sym e) c

  -- a line began
  pub counts_line : (events : List Event) (line : ℕ) → events ≡ old.events ++ Line line ∷ []
      → CountsEachStep h first (record { counted = old.counted; left = old.left; events = events })
  counts_line events line e =
      let steps : steps_met h events ≡ steps_met h old.events = ap (steps_met h) e ∙ more_line steps_of h.calls.calls old.events line in
      let changes : changes_met h events ≡ changes_met h old.events = ap (changes_met h) e
      ∙ more_line (changes_in h.log) h.calls.calls old.events line in
      let w = c.within in
      let b = c.exact in
      record { within = omega (arith, w, steps); exact = omega (arith, b, steps, changes) }

  -- the effect of a call was put in place of its run
  pub counts_child : (now : Tally) (number : ℕ) (row : Call) → now.events ≡ old.events ++ Child number ∷ [] → slice_get h.calls.calls number ≡ Some row
      → (old.left ≡ row.entry.steps) × (now.left ≡ old.left - steps_of row) × (now.counted ≡ old.counted + changes_in h.log row)
      → CountsEachStep h first now
  counts_child now number row e at f =
      let steps : steps_met h now.events ≡ steps_met h old.events + steps_of row = ap (steps_met h) e
      ∙ more_child steps_of h.calls.calls old.events number ∙ ap (λ o. steps_met h old.events + counted_if_there steps_of o) at in
      let changes : changes_met h now.events ≡ changes_met h old.events + changes_in h.log row = ap (changes_met h) e
      ∙ more_child (changes_in h.log) h.calls.calls old.events number ∙ ap (λ o. changes_met h old.events + counted_if_there (changes_in h.log) o) at in
      let at_entry : old.left ≡ row.entry.steps = f.0 in
      let left : now.left ≡ old.left - steps_of row = f.1 in
      let counted : now.counted ≡ old.counted + changes_in h.log row = f.2 in
      let w = c.within in
      let b = c.exact in
      let taken : steps_of row ≤ old.left = let z : row.entry.steps - row.exit.steps ≤ old.left = omega (arith, at_entry) in z in
      record {
        within = omega (arith, w, steps, left, taken);
        exact = omega (arith, b, steps, changes, left, taken, counted);
      }

pub counts_none : {h : History} {first : Tally} → first.events ≡ [] → CountsEachStep h first first
counts_none {h = h} {first = first} e =
    let steps : steps_met h first.events ≡ 0 = ap (steps_met h) e in
    let changes : changes_met h first.events ≡ 0 = ap (changes_met h) e in
    record { within = omega (arith, steps); exact = omega (arith, steps, changes) }

-- at the end
pub counted_at_end : {h : History} {first now : Tally} (row : Call) → CountsEachStep h first now → first.left ≡ row.entry.steps → now.left ≡ row.exit.steps
    → now.counted ≡ first.counted + own_steps h.calls.calls row now.events + changes_met h now.events
counted_at_end {h = h} {first = first} {now = now} row c begin end =
    let w = c.within in
    let b = c.exact in
    let own : own_steps h.calls.calls row now.events ≡ row.entry.steps - row.exit.steps - steps_met h now.events = refl in
    omega (arith, w, b, begin, end, own)
