-- What is tested of a call by its row and its effect is whether it fits.
use Rattle.std.proofs.Common.{◌&&◌, ◌∙◌, ◌≡◌, ℕ, Bool, List, Option, Some, ap, false, is_some, nat_eq, refl, subst, sym, true}
use Rattle.std.specs.List.{list_all}
use Rattle.cell_value.specs.Effects.{changes_of, made_of, reads_of}
use Rattle.cell_value.specs.declared.{entries.Change.Change, entries.Seen.Seen, values.Value.Value}
use Rattle.effect_log.specs.declared.by_maps.Footprint.{Footprint}
use Rattle.call_tree.specs.declared.records.Call as table
use Rattle.program_run.specs.declared.history.History.{History}
use Rattle.body_replay.{proofs.AgreementIsTested.and_both, proofs.AgreementIsTested.both, specs.ByRows.IsEffectOf}
use Rattle.reference_oracle.proofs.VerdictsTested.{fit_tells, fit_told, same_routine}
use Rattle.reference_oracle.specs.{Kept.IsKeptCall, Kept.has_room, Kept.worked_within, Matches.matches, Places.ArePlaces, Places.is_placed}
use Rattle.reference_oracle.specs.Fitting.{Asked, FitsReference, counterpart}
use Rattle.reference_oracle.specs.Verdicts.{fits_reference, is_common, is_common_value, returned_or_faulted}

not_both : {A : Type 0} → true ≡ false → A
not_both h = absurd (let z : true ≡ false = h in cc)

placed_is : (a : Asked) (places : List (Option ℕ)) → ArePlaces (matches a.programs) places → (v : Value) → is_placed places v ≡ is_common_value a v
placed_is a places h (Value.Place address) = ap is_some (h address)
placed_is a places h v = refl

module _ (a : Asked) where
  abbrev args : Bool
  args = list_all (is_common_value a) a.call.args

  abbrev reads : Bool
  reads = list_all (λ (x : ℕ × Seen). is_common a x.0) (reads_of a.call.base a.call.log)

  abbrev changes : Bool
  changes = list_all (λ (x : ℕ × Change). is_common a x.0) (changes_of a.call.base a.call.log)

  abbrev made : Bool
  made = nat_eq (made_of a.call.log) 0

  module _ {run : History} {row : table.Call} (k : IsKeptCall run row a.call) (places : List (Option ℕ)) (h : ArePlaces (matches a.programs) places)
      (found : Footprint) (e : IsEffectOf run.log row found)
    where
      common_is : worked_within places row.args found ≡ (args && (reads && (changes && made)))
      common_is =
          let read : found.reads ≡ reads_of a.call.base a.call.log = e.reads ∙ (λ i. reads_of (k.base i) (k.log i)) in
          let changed : found.changes ≡ changes_of a.call.base a.call.log = e.changes ∙ (λ i. changes_of (k.base i) (k.log i)) in
          let new : found.made ≡ made_of a.call.log = e.made ∙ ap made_of k.log in
          λ i. list_all (λ v. placed_is a places h v i) (k.args i)
          && (list_all (λ (x : ℕ × Seen). is_some (h x.0 i)) (read i) && (list_all (λ (x : ℕ × Change). is_some (h x.0 i)) (changed i) && nat_eq (new i) 0))

      pub fits_so : (routine : ℕ) → returned_or_faulted row.way ≡ true → counterpart a.programs row.routine ≡ Some routine
          → (worked_within places row.args found && has_room a.programs.reference routine) ≡ true → FitsReference a routine
      unfolding fits_reference
      fits_so routine way by test =
          let t = both (worked_within places row.args found) (has_room a.programs.reference routine) test in
          let g = both args (reads && (changes && made)) (sym common_is ∙ t.0) in
          let r = both reads (changes && made) g.1 in
          let m = both changes made r.1 in
          fit_tells a routine (ap (counterpart a.programs) (sym k.routine) ∙ by)
          (and_both (returned_or_faulted a.call.way) (args && (reads && (changes && (made && has_room a.programs.reference routine))))
          (ap returned_or_faulted (sym k.way) ∙ way)
          (and_both args (reads && (changes && (made && has_room a.programs.reference routine))) g.0
          (and_both reads (changes && (made && has_room a.programs.reference routine)) r.0
          (and_both changes (made && has_room a.programs.reference routine) m.0 (and_both made (has_room a.programs.reference routine) m.1 t.1)))))

      test_of_fit : (routine : ℕ) → FitsReference a routine → (worked_within places row.args found && has_room a.programs.reference routine) ≡ true
      unfolding fits_reference
      test_of_fit routine f =
          let w = both (returned_or_faulted a.call.way) (args && (reads && (changes && (made && has_room a.programs.reference routine))))
          (fit_told a routine f) in
          let g = both args (reads && (changes && (made && has_room a.programs.reference routine))) w.1 in
          let r = both reads (changes && (made && has_room a.programs.reference routine)) g.1 in
          let c = both changes (made && has_room a.programs.reference routine) r.1 in
          let m = both made (has_room a.programs.reference routine) c.1 in
          and_both (worked_within places row.args found) (has_room a.programs.reference routine)
          (common_is ∙ and_both args (reads && (changes && made)) g.0 (and_both reads (changes && made) r.0 (and_both changes made c.0 m.0))) m.1

      pub unfit_by_test : (routine : ℕ) → counterpart a.programs row.routine ≡ Some routine
          → (worked_within places row.args found && has_room a.programs.reference routine) ≡ false
          → (other : ℕ) → FitsReference a other → ⊥
      unfit_by_test routine by test other f =
          let same = same_routine a other routine f.answered_by (ap (counterpart a.programs) (sym k.routine) ∙ by) in
          not_both (sym (test_of_fit routine (subst (FitsReference a) same f)) ∙ test)
