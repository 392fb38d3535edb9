-- Notes on the entries of a book.
use Rattle.std.specs.Prelude.{◌&&◌, ◌≤◌, ℕ, All, Bool, IsTrue, List, Option, length, nat_le}
use Rattle.std.specs.{BTreeMap.insert_entry, BTreeMap.is_at, Map.keys_of, Map.lookup, Map.values_of, Ordering.nat_cmp}
use Rattle.std.specs.List.{list_all, Sorted.IsStrictlySortedBy}
use Rattle.session_file.specs.Limits.{first_printed, last_printed, note_bytes}

-- a byte that is printed
abbrev pub is_printed : ℕ → Bool
is_printed byte = nat_le first_printed byte && nat_le byte last_printed

-- 1 to `note_bytes` bytes that are printed
abbrev pub is_note : List ℕ → Bool
is_note text = nat_le 1 (length text) && nat_le (length text) note_bytes && list_all is_printed text

-- the notes, which stand by rising entries, with this one on an entry: in the place of an older one, or before the
-- first on a later entry
abbrev pub with_note : List (ℕ × List ℕ) → (entry : ℕ) → (note : List ℕ) → List (ℕ × List ℕ)
with_note notes entry note = insert_entry nat_cmp notes entry note

-- the note on an entry
abbrev pub note_on : List (ℕ × List ℕ) → (entry : ℕ) → Option (List ℕ)
note_on notes entry = lookup (is_at (nat_cmp entry)) notes

-- notes on entries from 1 to 100,000, by rising entries
pub record AreNotes (notes : List (ℕ × List ℕ)) : Type 0 where
  pub first : All (λ entry. 1 ≤ entry) (keys_of notes)
  pub last : All (λ entry. entry ≤ 100000) (keys_of notes)
  pub each : All (λ note. IsTrue (is_note note)) (values_of notes)
  pub rising : IsStrictlySortedBy nat_cmp (keys_of notes)
