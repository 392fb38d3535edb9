-- A book stays kept when an entry is taken back and what it named is looked up anew.
use Rattle.std.proofs.Common.{◌-◌, ◌==◌, ◌∙◌, ◌≡◌, ℕ, All, Bool, List, None, Option, Some, ap, cond, false, length, refl, set, slice_get, slice_set, subst, sym}
use Rattle.std.{proofs.Common.true, specs.List.filter_map, specs.List.list_any}
use Rattle.std.proofs.lemmas.{List.Elements.All-get_or, List.Elements.All-set, Option.get_or_from_slice_get, Option.slice_get_within}
use Rattle.answer_book.proofs.{FilterMaps.filter_map-set, FilterMaps.list_any-set, KeptLemmas.column_same, KeptLemmas.column_set}
use Rattle.answer_book.proofs.EntryLemmas.{in_another, last_by_entries, on_another, trusted_by_entries}
use Rattle.answer_book.specs.{Answers.Answers, InRange.IsInRange, Kept.AreKept, Numbers.last_of, Spoken.entry_judgement, Spoken.entry_trusts}
use Rattle.answer_book.specs.Entries.{entries_without, entry_at, entry_saying, standing_answers, with_taken_back}
use Rattle.answer_book.specs.Marks.{is_trusted, judgement_on, last_judgement, trusts}
use Rattle.answer_book.specs.declared.entries.{Entry.Entry, Judgement.Judgement, What.What, What.TheVariants.Judged, What.TheVariants.Trusted}

-- the entry that says this stands at the place, and was taken back there
pub record IsWithdrawn (entries after : List Entry) (place : ℕ) (what : What) : Type 0 where
  pub at : slice_get entries place ≡ Some (entry_saying what)
  pub set : after ≡ slice_set entries place (record { what = what; standing = false })

some_of : (b : Bool) (o : Option Entry) (entry : Entry) → cond b None o ≡ Some entry → o ≡ Some entry
some_of true o entry h = absurd (let l : ⊥ = cc in l)
some_of false o entry h = h

pub entry_is_withdrawn : (entries : List Entry) (number : ℕ) (what : What) → entry_at entries number ≡ Some (entry_saying what)
    → IsWithdrawn entries (entries_without entries number) (number - 1) what
entry_is_withdrawn entries number what at = record {
  at = some_of (number == 0) (slice_get entries (number - 1)) (entry_saying what) at;
  set = ap (with_taken_back entries (number - 1)) at;
}

still_named : (calls routines : ℕ) (entries after : List Entry) (place : ℕ) (what : What) → IsWithdrawn entries after place what
    → All (λ entry. IsInRange calls routines entry.what) entries → All (λ entry. IsInRange calls routines entry.what) after
still_named calls routines entries after place what w named =
    let P : Entry → Type 0 = λ entry. IsInRange calls routines entry.what in
    let inside = slice_get_within entries place (entry_saying what) w.at in
    let here : P (entry_saying what) = subst P (get_or_from_slice_get entries place (entry_saying what) (entry_saying what) w.at)
    (All-get_or P entries place (entry_saying what) inside named) in
    subst (All P) (sym w.set) (All-set P entries place (record { what = what; standing = false }) here named)

pub named_before : (calls routines : ℕ) (entries after : List Entry) (place : ℕ) (what : What) → IsWithdrawn entries after place what
    → All (λ entry. IsInRange calls routines entry.what) entries → IsInRange calls routines what
named_before calls routines entries after place what w named =
    let P : Entry → Type 0 = λ entry. IsInRange calls routines entry.what in
    let inside = slice_get_within entries place (entry_saying what) w.at in
    subst P (get_or_from_slice_get entries place (entry_saying what) (entry_saying what) w.at)
    (All-get_or P entries place (entry_saying what) inside named)

-- the last judgement on a call that it did not name
pub same_judgement : (entries after : List Entry) (place : ℕ) (what : What) (call : ℕ) → IsWithdrawn entries after place what
    → judgement_on call what ≡ None → last_judgement (standing_answers after) call ≡ last_judgement (standing_answers entries) call
same_judgement entries after place what call w off =
    last_by_entries after call ∙ ap (λ l. last_of (filter_map (entry_judgement call) l)) w.set
    ∙ ap last_of (filter_map-set (entry_judgement call) entries place (entry_saying what) (record { what = what; standing = false }) w.at (sym off))
    ∙ sym (last_by_entries entries call)

-- whether a routine is trusted that it did not name
pub same_trust : (entries after : List Entry) (place : ℕ) (what : What) (routine : ℕ) → IsWithdrawn entries after place what
    → trusts routine what ≡ false → is_trusted (standing_answers after) routine ≡ is_trusted (standing_answers entries) routine
same_trust entries after place what routine w off =
    trusted_by_entries after routine ∙ ap (list_any (entry_trusts routine)) w.set
    ∙ list_any-set (entry_trusts routine) entries place (entry_saying what) (record { what = what; standing = false }) w.at (sym off)
    ∙ sym (trusted_by_entries entries routine)

pub judgement_is_withdrawn : (book : Answers) (after : List Entry) (judged : List (Option Judgement)) (trusted : List Bool)
    (place call : ℕ) (judgement : Judgement)
    → IsWithdrawn book.entries after place (Judged call judgement) → AreKept book judged trusted
    → AreKept (record book { entries = after }) (set judged call (last_of (filter_map (entry_judgement call) after))) trusted
judgement_is_withdrawn book after judged trusted place call judgement w kept =
    let what = Judged call judgement in
    record {
      few = kept.few;
      known = kept.known;
      named = still_named (length book.routine) book.routines book.entries after place what w kept.named;
      judged_calls =
          ap (λ l. set l call (last_of (filter_map (entry_judgement call) after))) kept.judged_calls
          ∙ column_set (last_judgement (standing_answers book.entries)) (last_judgement (standing_answers after)) (length book.routine) call
          (last_of (filter_map (entry_judgement call) after)) (named_before (length book.routine) book.routines book.entries after place what w kept.named)
          (last_by_entries after call)
          (λ other h differs. same_judgement book.entries after place what other w (on_another call other judgement differs));
      trusted_routines =
          kept.trusted_routines
          ∙ column_same (is_trusted (standing_answers book.entries)) (is_trusted (standing_answers after)) book.routines false
          (λ routine h. sym (same_trust book.entries after place what routine w refl));
    }

pub trust_is_withdrawn : (book : Answers) (after : List Entry) (judged : List (Option Judgement)) (trusted : List Bool) (place routine : ℕ)
    → IsWithdrawn book.entries after place (Trusted routine) → AreKept book judged trusted
    → AreKept (record book { entries = after }) judged (set trusted routine (list_any (entry_trusts routine) after))
trust_is_withdrawn book after judged trusted place routine w kept =
    let what = Trusted routine in
    record {
      few = kept.few;
      known = kept.known;
      named = still_named (length book.routine) book.routines book.entries after place what w kept.named;
      judged_calls =
          kept.judged_calls
          ∙ column_same (last_judgement (standing_answers book.entries)) (last_judgement (standing_answers after)) (length book.routine) None
          (λ call h. sym (same_judgement book.entries after place what call w refl));
      trusted_routines =
          ap (λ l. set l routine (list_any (entry_trusts routine) after)) kept.trusted_routines
          ∙ column_set (is_trusted (standing_answers book.entries)) (is_trusted (standing_answers after)) book.routines routine
          (list_any (entry_trusts routine) after) (named_before (length book.routine) book.routines book.entries after place what w kept.named)
          (trusted_by_entries after routine)
          (λ other h differs. same_trust book.entries after place what other w (in_another routine other differs));
    }
