-- The calls of a run stand in the subtree of call 0.
use Rattle.std.proofs.Common.{◌+◌, ◌-◌, ◌<◌, ◌∙◌, ◌∷◌, ◌≡◌, ◌≤◌, [], ℕ, List, None, Option, Some, ap, arith, length, refl, slice_get, slice_index, subst, suc}
use Rattle.std.proofs.Common.{sym, zero}
use Rattle.call_tree.specs.{Nesting.IsRooted, Numbering.IsNumbered, Numbering.IsParent}
use Rattle.call_tree.specs.Recording.{Recording, depths_of, lasts_of, parents_of}
use Rattle.optimal_query.specs.Laws.{CallTree}
use Rattle.dialog_replies.{proofs.ColumnsOfCalls.routines_counted, specs.Kept.AreCallsOf, specs.Subject.Subject, specs.Subject.calls_recorded}
use Rattle.made_program.specs.Laws.{IsSmallTree}

one_there : {X : Type 0} (xs : List X) (k : ℕ) → k < length xs → slice_get xs k ≡ None → ⊥
one_there [] k inside none = omega arith
one_there (x ∷ xs) zero inside none = cc
one_there (x ∷ xs) (suc k) inside none = one_there xs k (omega arith) none

-- a call is call 0, or a call that was entered before it made it
pub data Made (parent : List (Option ℕ)) (call : ℕ) : Type 0 where
  First : call ≡ 0 → Made parent call
  By : (above : ℕ) → IsParent parent above call → Made parent call

made_by : (parent : List (Option ℕ)) (depth : List ℕ) (call : ℕ) (o : Option (Option ℕ)) → IsRooted parent depth → call < length parent
    → slice_get parent call ≡ o → Made parent call
made_by parent depth call None rooted inside is = absurd (one_there parent call inside is)
made_by parent depth call (Some None) rooted inside is = First (rooted.root call is)
made_by parent depth call (Some (Some above)) rooted inside is = By above is

-- each call ends no later than call 0
ends_within : (parent : List (Option ℕ)) (last depth : List ℕ) (fuel call : ℕ) → IsNumbered parent last → IsRooted parent depth
    → call < length last → call ≤ fuel → slice_index last call ≤ slice_index last 0
ends_within parent last depth zero call numbered rooted inside near =
    let first : call ≡ 0 = omega arith in omega (arith, ap (slice_index last) first)
ends_within parent last depth (suc fuel) call numbered rooted inside near =
    elim (made_by parent depth call (slice_get parent call) rooted (omega (arith, numbered.same_length)) refl) [
      | First first ↦ omega (arith, ap (slice_index last) first)
      | By above is ↦
          let later = numbered.child_is_later above call is in
          let ends = numbered.child_ends_within above call is in
          let higher = ends_within parent last depth fuel above numbered rooted (omega arith) (omega arith) in
          omega (arith, ends, higher)
    ]

reaches_all : (parent : List (Option ℕ)) (last depth : List ℕ) → IsNumbered parent last → IsRooted parent depth → 0 < length last
    → slice_index last 0 + 1 ≡ length last
reaches_all parent last depth numbered rooted some =
    let end = length last - 1 in
    let inside : end < length last = omega arith in
    omega (
      arith,
      ends_within parent last depth end end numbered rooted inside (omega arith),
      numbered.intervals.from_itself end inside,
      numbered.intervals.to_a_call 0 some,
    )

-- the calls of a run, where they are few
pub small_tree : (s : Subject) (run : Recording) → AreCallsOf s run → IsNumbered (parents_of run.calls) (lasts_of run.calls)
    → IsRooted (parents_of run.calls) (depths_of run.calls) → calls_recorded s < 100000 → IsSmallTree s
small_tree s run are numbered rooted few =
    let P : CallTree → Type 0 = λ tree. IsNumbered tree.parent tree.last in
    let Q : CallTree → Type 0 = λ tree. slice_index tree.last 0 + 1 ≡ length tree.last in
    let some : 0 < length (lasts_of run.calls) = omega (arith, are.some, ap (λ (tree : CallTree). length tree.last) are.tree) in
    record {
      tree = record {
        numbered = subst P (sym are.tree) numbered;
        of_routines = ap (λ (tree : CallTree). length tree.routine) are.tree ∙ routines_counted s run are;
      };
      rooted = subst Q (sym are.tree) (reaches_all (parents_of run.calls) (lasts_of run.calls) (depths_of run.calls) numbered rooted some);
      few = few;
    }
