-- A book stays kept when an entry is added or taken back.
use Rattle.std.proofs.Common.{◌<◌, ◌||◌, ◌∙◌, ◌≡◌, ℕ, Bool, List, None, Option, Some, ap, arith, false, get_or, get_or-set_other, get_or-set_same, inl, inr}
use Rattle.std.proofs.Common.{length, map, refl, set, sym, true}
use Rattle.std.proofs.lemmas.Bool.{cases_eq, or_right}
use Rattle.std.proofs.lemmas.List.{length-set, Elements.All-push, FromFn.fill_by_all, FromFn.get_or-map-range_with_len, FromFn.length-map-range_with_len}
use Rattle.answer_book.proofs.EntryLemmas.{in_another, in_its_routine, last_with, last_with_other, on_another, on_its_call, trusted_with}
use Rattle.answer_book.specs.{Answers.Answers, Answers.with_answer, Entries.entries_with, Entries.entry_saying, Entries.standing_answers, InRange.IsInRange}
use Rattle.answer_book.specs.{Kept.AreKept, Marks.is_trusted, Marks.last_judgement, Marks.trusts, Numbers.numbers_below}
use Rattle.answer_book.specs.declared.entries.{Entry.Entry, Judgement.Judgement, What.TheVariants.Judged, What.TheVariants.Trusted}

-- a column of f where one place was written anew, and g differs from f at that place alone
pub column_set : {X : Type 0} (f g : ℕ → X) (n at : ℕ) (x : X) → at < n → g at ≡ x → ((k : ℕ) → k < n → (k ≡ at → ⊥) → g k ≡ f k)
    → set (map f (numbers_below n)) at x ≡ map g (numbers_below n)
column_set f g n at x inside here others =
    let long : length (map f (numbers_below n)) ≡ n = length-map-range_with_len f 0 n in
    fill_by_all g (set (map f (numbers_below n)) at x) n x (length-set (map f (numbers_below n)) at x ∙ long)
    (λ k h. elim (cases_eq k at) [
      | inl same ↦
          ap (λ i. get_or (set (map f (numbers_below n)) at x) i x) same
          ∙ get_or-set_same (map f (numbers_below n)) at x x (omega arith) ∙ sym here ∙ ap g (sym same)
      | inr differs ↦
          get_or-set_other (map f (numbers_below n)) at k x x differs
          ∙ get_or-map-range_with_len f 0 n k k x h (omega arith) ∙ sym (others k h differs)
    ])

-- two functions that agree below n have one column
pub column_same : {X : Type 0} (f g : ℕ → X) (n : ℕ) (d : X) → ((k : ℕ) → k < n → f k ≡ g k) → map f (numbers_below n) ≡ map g (numbers_below n)
column_same f g n d agree =
    fill_by_all g (map f (numbers_below n)) n d (length-map-range_with_len f 0 n)
    (λ k h. get_or-map-range_with_len f 0 n k k d h (omega arith) ∙ agree k h)

or_none : (b c : Bool) → c ≡ false → (b || c) ≡ b
or_none true c none = refl
or_none false c none = none

pub judged_is_kept : (book : Answers) (judged : List (Option Judgement)) (trusted : List Bool) (call : ℕ) (judgement : Judgement)
    → call < length book.routine → AreKept book judged trusted
    → AreKept (with_answer book (Judged call judgement)) (set judged call (Some judgement)) trusted
judged_is_kept book judged trusted call judgement inside kept = record {
  few = kept.few;
  known = kept.known;
  named =
      All-push (λ (entry : Entry). IsInRange (length book.routine) book.routines entry.what) book.entries
      (entry_saying (Judged call judgement)) kept.named inside;
  judged_calls =
      ap (λ l. set l call (Some judgement)) kept.judged_calls
      ∙ column_set (last_judgement (standing_answers book.entries)) (last_judgement (standing_answers (entries_with book.entries (Judged call judgement))))
      (length book.routine) call (Some judgement) inside (last_with book.entries (Judged call judgement) call judgement (on_its_call call judgement))
      (λ other h differs. last_with_other book.entries (Judged call judgement) other (on_another call other judgement differs));
  trusted_routines =
      kept.trusted_routines
      ∙ column_same (is_trusted (standing_answers book.entries)) (is_trusted (standing_answers (entries_with book.entries (Judged call judgement))))
      book.routines false
      (λ routine h. sym (trusted_with book.entries (Judged call judgement) routine ∙ or_none (is_trusted (standing_answers book.entries) routine) false refl));
}

pub trusted_is_kept : (book : Answers) (judged : List (Option Judgement)) (trusted : List Bool) (routine : ℕ)
    → routine < book.routines → AreKept book judged trusted
    → AreKept (with_answer book (Trusted routine)) judged (set trusted routine true)
trusted_is_kept book judged trusted routine inside kept = record {
  few = kept.few;
  known = kept.known;
  named =
      All-push (λ (entry : Entry). IsInRange (length book.routine) book.routines entry.what) book.entries
      (entry_saying (Trusted routine)) kept.named inside;
  judged_calls =
      kept.judged_calls
      ∙ column_same (last_judgement (standing_answers book.entries)) (last_judgement (standing_answers (entries_with book.entries (Trusted routine))))
      (length book.routine) None (λ call h. sym (last_with_other book.entries (Trusted routine) call refl));
  trusted_routines =
      ap (λ l. set l routine true) kept.trusted_routines
      ∙ column_set (is_trusted (standing_answers book.entries)) (is_trusted (standing_answers (entries_with book.entries (Trusted routine))))
      book.routines routine true inside
      (trusted_with book.entries (Trusted routine) routine
      ∙ or_right (is_trusted (standing_answers book.entries) routine) (trusts routine (Trusted routine)) (in_its_routine routine))
      (λ other h differs. trusted_with book.entries (Trusted routine) other
      ∙ or_none (is_trusted (standing_answers book.entries) other) (trusts other (Trusted routine)) (in_another routine other differs));
}
