-- The text of a session, version 2: JSON with no space, and the keys of each object in rising order; and that of
-- version 1, which has no notes and no replies.
use Rattle.std.specs.Prelude.{◌+◌, ◌∷◌, [], ℕ, Bool, List, None, Option, Some, codes, map}
use Rattle.hex.specs.Hex.{encode_lower}
use Rattle.serde_json.specs.{View.items_of, Written.compact_text}
use Rattle.serde_json.specs.Data.{Data, Members, array, boolean, member, no_members, number, object, string, unsigned}
use Rattle.answer_book.specs.declared.entries.{Entry.Entry, Judgement.Judgement}
use Rattle.answer_book.specs.declared.entries.Judgement.TheVariants.{Right, Unknown, Wrong}
use Rattle.answer_book.specs.declared.entries.What.{What, TheVariants.Judged, TheVariants.Trusted}
use Rattle.session_file.specs.{Notes.note_on, declared.session.Session.Session}

-- the version that is written, and the one before it, which is read as well
abbrev pub this_version : ℕ
this_version = 2

abbrev pub first_version : ℕ
first_version = 1

-- the word for a judgement
abbrev pub judgement_word : Judgement → List ℕ
judgement_word Right = codes "right"
judgement_word Wrong = codes "wrong"
judgement_word Unknown = codes "unknown"

-- the note of an entry among its members, if it has one
abbrev pub with_member : Option (List ℕ) → Members → Members
with_member (Some note) others = member (codes "note") (string note) others
with_member None others = others

-- what is said, its note, and whether it stands: `{"call":K,"kind":"right","note":"TEXT","standing":true}` or
-- `{"kind":"trust","note":"TEXT","routine":R,"standing":true}`
abbrev pub said_data : What → Option (List ℕ) → Bool → Data
said_data (Judged call judgement) note standing =
    object (member (codes "call") (number (unsigned call))
    (member (codes "kind") (string (judgement_word judgement))
    (with_member note
    (member (codes "standing") (boolean standing) no_members))))
said_data (Trusted routine) note standing =
    object (member (codes "kind") (string (codes "trust"))
    (with_member note
    (member (codes "routine") (number (unsigned routine))
    (member (codes "standing") (boolean standing) no_members))))

abbrev pub entry_data : Entry → Option (List ℕ) → Data
entry_data entry note = said_data entry.what note entry.standing

-- the entries with the notes on them, where the first has this number
abbrev pub entries_data : List (ℕ × List ℕ) → (first : ℕ) → List Entry → List Data
entries_data notes first [] = []
entries_data notes first (entry ∷ entries) =
    entry_data entry (note_on notes first) ∷ entries_data notes (first + 1) entries

-- `{"question":"HEX","reply":"right"}`
abbrev pub reply_data : List ℕ × Judgement → Data
reply_data kept =
    object (member (codes "question") (string (encode_lower kept.0))
    (member (codes "reply") (string (judgement_word kept.1)) no_members))

-- `{"budget":B,"entries":[E1,E2],"input":"HEX","replies":[R1,R2],"source":"HEX","version":2}`
abbrev pub session_data : Session → Data
session_data s =
    object (member (codes "budget") (number (unsigned s.budget))
    (member (codes "entries") (array (items_of (entries_data s.notes 1 s.entries)))
    (member (codes "input") (string (encode_lower s.input))
    (member (codes "replies") (array (items_of (map reply_data s.replies)))
    (member (codes "source") (string (encode_lower s.source))
    (member (codes "version") (number (unsigned this_version)) no_members))))))

-- the text of that value
unfoldable pub session_text : Session → List ℕ
session_text s = compact_text (session_data s)

-- ---- version 1

-- `{"budget":B,"entries":[E1,E2],"input":"HEX","source":"HEX","version":1}`
abbrev pub first_data : Session → Data
first_data s =
    object (member (codes "budget") (number (unsigned s.budget))
    (member (codes "entries") (array (items_of (entries_data [] 1 s.entries)))
    (member (codes "input") (string (encode_lower s.input))
    (member (codes "source") (string (encode_lower s.source))
    (member (codes "version") (number (unsigned first_version)) no_members)))))

unfoldable pub first_text : Session → List ℕ
first_text s = compact_text (first_data s)
