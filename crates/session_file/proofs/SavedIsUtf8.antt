-- What is saved is UTF-8.
use Rattle.std.proofs.Common.{◌+◌, ◌<◌, ◌^◌, ◌∷◌, ◌≡◌, [], ℕ, All, Bool, IfSome, IsTrue, IsUtf8, List, None, Option, Some, arith, codes, decimal, false}
use Rattle.std.proofs.Common.{ltb-true, map, refl, true}
use Rattle.std.proofs.lemmas.{Bool.and_parts, Fmt.IsAscii-decimal, List.Elements.All-cons, List.Elements.All-tail, Map.Entries.All-lookup}
use Rattle.std.proofs.lemmas.Str.{IsUtf8-append, IsUtf8-from_ascii, Ascii.IsAscii-cons, Ascii.IsAscii-nil}
use Rattle.std.specs.{Prelude.⊤, BTreeMap.is_at, Map.values_of, Ordering.nat_cmp, Str.IsAscii}
use Rattle.hex.{proofs.HexLemmas.IsAscii-encode_with, specs.Hex.encode_lower, specs.Hex.lower_digits}
use Rattle.json.proofs.Printed.Utf8.{IsUtf8-are_ascii, IsUtf8-boolean, IsUtf8-quoted, are_ascii}
use Rattle.json.specs.Print.{quoted}
use Rattle.serde_json.specs.Data.{Data, Items, Members, array, boolean, item, member, no_items, no_members, null, number, object, string}
use Rattle.serde_json.specs.View.{items_of}
use Rattle.serde_json.specs.Written.{comma_if, compact_text, items_text, members_text, number_text}
use Rattle.answer_book.specs.declared.entries.{Entry.Entry, What.What, What.TheVariants.Judged, What.TheVariants.Trusted}
use Rattle.answer_book.specs.declared.entries.Judgement.{Judgement, TheVariants.Right, TheVariants.Unknown, TheVariants.Wrong}
use Rattle.session_file.proofs.NotesAreText.{note_utf8}
use Rattle.session_file.specs.{Notes.is_note, Notes.note_on, Whole.IsWhole, Whole.NumberFits, declared.session.Session.Session}
use Rattle.session_file.specs.Text.{entries_data, first_data, first_text, judgement_word, reply_data, said_data, session_data, session_text}

-- ---- a value whose numbers, strings and keys are UTF-8 has a text that is

abbrev mutual
  HasUtf8 : Data → Type 0
  HasUtf8 null = ⊤
  HasUtf8 (boolean b) = ⊤
  HasUtf8 (number n) = IsUtf8 (number_text n)
  HasUtf8 (string s) = IsUtf8 s
  HasUtf8 (array ds) = ItemsHaveUtf8 ds
  HasUtf8 (object ms) = MembersHaveUtf8 ms

  ItemsHaveUtf8 : Items → Type 0
  ItemsHaveUtf8 no_items = ⊤
  ItemsHaveUtf8 (item d ds) = HasUtf8 d × ItemsHaveUtf8 ds

  MembersHaveUtf8 : Members → Type 0
  MembersHaveUtf8 no_members = ⊤
  MembersHaveUtf8 (member k d ms) = IsUtf8 k × (HasUtf8 d × MembersHaveUtf8 ms)

ascii : (text : List ℕ) → are_ascii text ≡ true → IsUtf8 text
ascii text e = IsUtf8-are_ascii text e

comma_utf8 : (later : Bool) → IsUtf8 (comma_if later)
comma_utf8 true = ascii (44 ∷ []) refl
comma_utf8 false = ascii [] refl

mutual
  value_utf8 : (d : Data) → HasUtf8 d → IsUtf8 (compact_text d)
  value_utf8 null h = IsUtf8-are_ascii _ refl
  value_utf8 (boolean b) h = IsUtf8-boolean b
  value_utf8 (number n) h = h
  value_utf8 (string s) h = IsUtf8-quoted s h
  value_utf8 (array ds) h = IsUtf8-append (91 ∷ []) (items_text false ds) (ascii (91 ∷ []) refl) (items_utf8 false ds h)
  value_utf8 (object ms) h = IsUtf8-append (123 ∷ []) (members_text false ms) (ascii (123 ∷ []) refl) (members_utf8 false ms h)

  items_utf8 : (later : Bool) (ds : Items) → ItemsHaveUtf8 ds → IsUtf8 (items_text later ds)
  items_utf8 later no_items h = ascii (93 ∷ []) refl
  items_utf8 later (item d ds) h =
      IsUtf8-append (comma_if later) _ (comma_utf8 later) (IsUtf8-append (compact_text d) _ (value_utf8 d h.0) (items_utf8 true ds h.1))

  members_utf8 : (later : Bool) (ms : Members) → MembersHaveUtf8 ms → IsUtf8 (members_text later ms)
  members_utf8 later no_members h = ascii (125 ∷ []) refl
  members_utf8 later (member k d ms) h =
      IsUtf8-append (comma_if later) _ (comma_utf8 later)
      (IsUtf8-append (quoted k) _ (IsUtf8-quoted k h.0)
      (IsUtf8-append (58 ∷ []) _ (ascii (58 ∷ []) refl)
      (IsUtf8-append (compact_text d) _ (value_utf8 d h.1.0) (members_utf8 true ms h.1.1))))

-- ---- a session's value is such

number_utf8 : (n : ℕ) → n < 2 ^ 64 → IsUtf8 (decimal n)
number_utf8 n small = IsUtf8-from_ascii (decimal n) (IsAscii-decimal n small)

word_utf8 : (judgement : Judgement) → IsUtf8 (judgement_word judgement)
word_utf8 Right = ascii (codes "right") refl
word_utf8 Wrong = ascii (codes "wrong") refl
word_utf8 Unknown = ascii (codes "unknown") refl

-- ---- notes are

abbrev pub AreNoted : List (ℕ × List ℕ) → Type 0
AreNoted notes = (entry : ℕ) → IfSome (note_on notes entry) (λ note. IsTrue (is_note note))

-- ---- entries and replies

said_utf8 : (what : What) (note : Option (List ℕ)) (standing : Bool) → NumberFits what → IfSome note (λ n. IsTrue (is_note n))
    → HasUtf8 (said_data what note standing)
said_utf8 (Judged call judgement) None standing small good = (
  ascii (codes "call") refl,
  (number_utf8 call (omega (arith, small)), (ascii (codes "kind") refl, (word_utf8 judgement, (ascii (codes "standing") refl, (tt, tt))))),
)
said_utf8 (Judged call judgement) (Some note) standing small good = (
  ascii (codes "call") refl,
  (
    number_utf8 call (omega (arith, small)),
    (
      ascii (codes "kind") refl,
      (word_utf8 judgement, (ascii (codes "note") refl, (note_utf8 note good, (ascii (codes "standing") refl, (tt, tt))))),
    ),
  ),
)
said_utf8 (Trusted routine) None standing small good = (
  ascii (codes "kind") refl,
  (ascii (codes "trust") refl, (ascii (codes "routine") refl, (number_utf8 routine (omega (arith, small)), (ascii (codes "standing") refl, (tt, tt))))),
)
said_utf8 (Trusted routine) (Some note) standing small good = (
  ascii (codes "kind") refl,
  (
    ascii (codes "trust") refl,
    (
      ascii (codes "note") refl,
      (
        note_utf8 note good,
        (ascii (codes "routine") refl, (number_utf8 routine (omega (arith, small)), (ascii (codes "standing") refl, (tt, tt)))),
      ),
    ),
  ),
)

entries_utf8 : (notes : List (ℕ × List ℕ)) (first : ℕ) (entries : List Entry) → AreNoted notes → All (λ entry. NumberFits entry.what) entries
    → ItemsHaveUtf8 (items_of (entries_data notes first entries))
entries_utf8 notes first [] good small = tt
entries_utf8 notes first (entry ∷ entries) good small = (
  said_utf8 entry.what (note_on notes first) entry.standing (small 0 entry (omega arith)) (good first),
  entries_utf8 notes (first + 1) entries good (All-tail (λ e. NumberFits e.what) entry entries small),
)

ascii_by_test : (text : List ℕ) → are_ascii text ≡ true → IsAscii text
ascii_by_test [] e = IsAscii-nil
ascii_by_test (b ∷ bs) e = let p = and_parts _ _ e in IsAscii-cons b bs (ltb-true _ _ p.0) (ascii_by_test bs p.1)

digest_utf8 : (bytes : List ℕ) → IsUtf8 (encode_lower bytes)
digest_utf8 bytes = IsUtf8-from_ascii _ (IsAscii-encode_with lower_digits bytes (ascii_by_test lower_digits refl))

reply_utf8 : (kept : List ℕ × Judgement) → HasUtf8 (reply_data kept)
reply_utf8 kept = (ascii (codes "question") refl, (digest_utf8 kept.0, (ascii (codes "reply") refl, (word_utf8 kept.1, tt))))

replies_utf8 : (replies : List (List ℕ × Judgement)) → ItemsHaveUtf8 (items_of (map reply_data replies))
replies_utf8 [] = tt
replies_utf8 (kept ∷ replies) = (reply_utf8 kept, replies_utf8 replies)

-- ---- a session

-- notes by their entries, each of which is one
noted_entries : (notes : List (ℕ × List ℕ)) → All (λ note. IsTrue (is_note note)) (values_of notes) → All (λ noted. IsTrue (is_note noted.1)) notes
noted_entries [] good = λ i d h. absurd (omega (arith, h))
noted_entries (n ∷ notes) good =
    All-cons (λ noted. IsTrue (is_note noted.1)) n notes (good 0 n.1 (omega arith))
    (noted_entries notes (All-tail (λ note. IsTrue (is_note note)) n.1 (values_of notes) good))

no_notes : AreNoted []
no_notes entry = tt

pub each_noted : (s : Session) → IsWhole s → AreNoted s.notes
each_noted s w entry = All-lookup (λ note. IsTrue (is_note note)) (is_at (nat_cmp entry)) s.notes (noted_entries s.notes w.noted.each)

session_utf8 : (s : Session) → IsWhole s → HasUtf8 (session_data s)
session_utf8 s w = (
  ascii (codes "budget") refl,
  (
    number_utf8 s.budget (omega (arith, w.budget)),
    (
      ascii (codes "entries") refl,
      (
        entries_utf8 s.notes 1 s.entries (each_noted s w) w.numbered,
        (
          ascii (codes "input") refl,
          (
            digest_utf8 s.input,
            (
              ascii (codes "replies") refl,
              (
                replies_utf8 s.replies,
                (
                  ascii (codes "source") refl,
                  (
                    digest_utf8 s.source,
                    (ascii (codes "version") refl, (number_utf8 2 (omega arith), tt)),
                  ),
                ),
              ),
            ),
          ),
        ),
      ),
    ),
  ),
)

first_utf8 : (s : Session) → IsWhole s → HasUtf8 (first_data s)
first_utf8 s w = (
  ascii (codes "budget") refl,
  (
    number_utf8 s.budget (omega (arith, w.budget)),
    (
      ascii (codes "entries") refl,
      (
        entries_utf8 [] 1 s.entries no_notes w.numbered,
        (
          ascii (codes "input") refl,
          (
            digest_utf8 s.input,
            (
              ascii (codes "source") refl,
              (
                digest_utf8 s.source,
                (ascii (codes "version") refl, (number_utf8 1 (omega arith), tt)),
              ),
            ),
          ),
        ),
      ),
    ),
  ),
)

pub saved_utf8 : (s : Session) → IsWhole s → IsUtf8 (session_text s)
unfolding session_text
saved_utf8 s w = value_utf8 (session_data s) (session_utf8 s w)

pub first_text_utf8 : (s : Session) → IsWhole s → IsUtf8 (first_text s)
unfolding first_text
first_text_utf8 s w = value_utf8 (first_data s) (first_utf8 s w)
