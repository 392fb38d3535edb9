-- Notes, as one more is put on an entry.
use Rattle.std.proofs.Common.{◌∷◌, ◌≡◌, ◌≤◌, [], ℕ, All, IsTrue, List, refl, subst, sym}
use Rattle.std.proofs.lemmas.Map.Views.{All-keys-insert_entry, All-values-insert_entry}
use Rattle.std.specs.{List.AllZip, List.Sorted.IsStrictlySortedBy, Map.keys_of, Map.values_of, Ordering.nat_cmp}
use Rattle.session_file.specs.Notes.{AreNotes, is_note, with_note}

-- `text` is the note as it is kept
pub one_more : (notes new : List (ℕ × List ℕ)) (entry : ℕ) (note text : List ℕ) → new ≡ with_note notes entry text → text ≡ note → AreNotes notes
    → 1 ≤ entry → entry ≤ 100000 → IsTrue (is_note note) → IsStrictlySortedBy nat_cmp (keys_of new) → AreNotes new
one_more notes new entry note text is same are first last good rising =
    let kept = subst (λ n. IsTrue (is_note n)) (sym same) good in
    record {
      first = subst (λ (l : List (ℕ × List ℕ)). All (λ e. 1 ≤ e) (keys_of l)) (sym is)
          (All-keys-insert_entry nat_cmp entry text (λ e. 1 ≤ e) notes are.first first);
      last = subst (λ (l : List (ℕ × List ℕ)). All (λ e. e ≤ 100000) (keys_of l)) (sym is)
          (All-keys-insert_entry nat_cmp entry text (λ e. e ≤ 100000) notes are.last last);
      each = subst (λ (l : List (ℕ × List ℕ)). All (λ n. IsTrue (is_note n)) (values_of l)) (sym is)
          (All-values-insert_entry nat_cmp entry text (λ n. IsTrue (is_note n)) notes are.each kept);
      rising = rising;
    }

-- ---- notes that are copied

-- each entry and its note come from the same of another list
abbrev pub AreSame : (notes copy : List (ℕ × List ℕ)) → Type 0
AreSame notes copy = AllZip (λ (n c : ℕ × List ℕ). (c.0 ≡ n.0) × (c.1 ≡ n.1)) notes copy

pub same_notes : (notes copy : List (ℕ × List ℕ)) → AreSame notes copy → copy ≡ notes
same_notes [] [] same = refl
same_notes [] (c ∷ copy) same = absurd same
same_notes (n ∷ notes) [] same = absurd same
same_notes (n ∷ notes) (c ∷ copy) same = rw (same.0.0, same.0.1, same_notes notes copy same.1) refl

pub copy_whole : (notes copy : List (ℕ × List ℕ)) → AreSame notes copy → AreNotes notes → AreNotes copy
copy_whole notes copy same are = subst AreNotes (sym (same_notes notes copy same)) are

pub ruleset notes_copied = (same_notes, copy_whole)
