-- Which session a text is, or why it is none. The keys that are not named here say nothing.
use Rattle.std.specs.Prelude.{if◌then◌else◌, ◌&&◌, ◌+◌, ◌==◌, ◌^◌, ◌∷◌, [], ℕ, Bool, Err, List, None, Ok, Option}
use Rattle.std.specs.Prelude.{Result, Some, codes, false, nat_le, nat_lt, option_and_then, option_map, slice_get}
use Rattle.std.specs.{Result.result_ok, Str.bytes_eq, Str.is_utf8}
use Rattle.hex.specs.Hex.{decode_sized}
use Rattle.json.specs.{Json.if_last, Json.value, Token.Token}
use Rattle.serde_json.specs.{Events.items_len, Read.max_depth, Read.of_json, Read.read}
use Rattle.serde_json.specs.Data.{Data, Items, item, no_items}
use Rattle.serde_json.specs.Find.{as_array, as_bool, as_number, as_str, as_u64, get}
use Rattle.answer_book.specs.declared.entries.{Entry.Entry, Judgement.Judgement}
use Rattle.answer_book.specs.declared.entries.Judgement.TheVariants.{Right, Unknown, Wrong}
use Rattle.answer_book.specs.declared.entries.What.{What, TheVariants.Judged, TheVariants.Trusted}
use Rattle.session_file.specs.{Limits.most_replies, Notes.is_note, Notes.with_note, Replies.with_reply}
use Rattle.session_file.specs.Text.{first_version, judgement_word, this_version}
use Rattle.session_file.specs.declared.session.{LoadFault.LoadFault, Session.Session}
use Rattle.session_file.specs.declared.session.LoadFault.TheVariants.{BadShape, BadVersion, NotJson}
use Rattle.session_file.specs.declared.session.SessionField.{SessionField, TheVariants.Version}
use Rattle.session_file.specs.declared.session.SessionField.TheVariants.{Budget, Entries, Input, Replies, Source}

-- ---- what stands under a key

-- the value, if it passes the test
abbrev pub only_if : {A : Type 0} → (A → Bool) → Option A → Option A
only_if passes None = None
only_if passes (Some a) = if passes a then Some a else None

-- a whole number, below 2^64 as all that JSON gives
abbrev pub whole_under : List ℕ → Data → Option ℕ
whole_under key d = option_and_then as_u64 (option_and_then as_number (get key d))

-- a whole number of 32 bits
abbrev pub word_under : List ℕ → Data → Option ℕ
word_under key d = only_if (λ n. nat_lt n (2 ^ 32)) (whole_under key d)

-- a text
abbrev pub text_under : List ℕ → Data → Option (List ℕ)
text_under key d = option_and_then as_str (get key d)

-- the 32 bytes of 64 hexadecimal digits, each of either case
abbrev pub digest_at : List ℕ → Data → Option (List ℕ)
digest_at key d = option_and_then (λ text. result_ok (decode_sized text 32)) (text_under key d)

-- ---- an entry

-- what an entry of this kind says
abbrev pub said_as : List ℕ → Data → Option What
said_as kind d =
    if bytes_eq kind (judgement_word Right) then option_map (λ call. Judged call Right) (word_under (codes "call") d)
    else if bytes_eq kind (judgement_word Wrong) then
    option_map (λ call. Judged call Wrong) (word_under (codes "call") d)
    else if bytes_eq kind (judgement_word Unknown) then
    option_map (λ call. Judged call Unknown) (word_under (codes "call") d)
    else if bytes_eq kind (codes "trust") then option_map Trusted (word_under (codes "routine") d)
    else None

-- the entry that a value is
abbrev pub entry_in : Data → Option Entry
entry_in d =
    option_and_then (λ what. option_map (λ standing. record { what = what; standing = standing })
    (option_and_then as_bool (get (codes "standing") d)))
    (option_and_then (λ kind. said_as kind d) (text_under (codes "kind") d))

-- the entries that these values are, if each is one
abbrev pub entries_in : Items → Option (List Entry)
entries_in no_items = Some []
entries_in (item d ds) = option_and_then (λ entry. option_map (λ entries. entry ∷ entries) (entries_in ds)) (entry_in d)

-- ---- the note on an entry

-- the note that a value is, if it is one
abbrev pub note_by : Data → Option (List ℕ)
note_by d = only_if is_note (as_str d)

-- what may be absent, and is no note then
abbrev pub if_there : Option Data → Option (Option (List ℕ))
if_there None = Some None
if_there (Some d) = option_map Some (note_by d)

-- the note that an entry has, if it has one; none at all where what stands there is no note
abbrev pub note_in : Data → Option (Option (List ℕ))
note_in d = if_there (get (codes "note") d)

-- the notes, the first of these on an entry before those of the others
abbrev pub noted : (number : ℕ) → Option (List ℕ) → List (ℕ × List ℕ) → List (ℕ × List ℕ)
noted number (Some note) notes = (number, note) ∷ notes
noted number None notes = notes

-- the notes on the entries that these values are, where the first has this number
abbrev pub notes_in : (number : ℕ) → Items → Option (List (ℕ × List ℕ))
notes_in number no_items = Some []
notes_in number (item d ds) =
    option_and_then (λ note. option_map (noted number note) (notes_in (number + 1) ds)) (note_in d)

-- the notes with one more, if there is one on the entry of this number
abbrev pub with_next : List (ℕ × List ℕ) → (number : ℕ) → Option (List ℕ) → List (ℕ × List ℕ)
with_next notes number (Some note) = with_note notes number note
with_next notes number None = notes

-- ---- a reply

-- the judgement of a word
abbrev pub judgement_of : List ℕ → Option Judgement
judgement_of word =
    if bytes_eq word (judgement_word Right) then Some Right
    else if bytes_eq word (judgement_word Wrong) then Some Wrong
    else if bytes_eq word (judgement_word Unknown) then Some Unknown
    else None

-- the reply that a value is, with the digest of its question
abbrev pub reply_in : Data → Option (List ℕ × Judgement)
reply_in d =
    option_and_then (λ digest. option_map (λ reply. (digest, reply))
    (option_and_then judgement_of (text_under (codes "reply") d)))
    (digest_at (codes "question") d)

-- the replies with one more set
abbrev pub with_kept : List (List ℕ × Judgement) → List ℕ × Judgement → List (List ℕ × Judgement)
with_kept replies kept = with_reply replies kept.0 kept.1

-- these replies with those that the values are, if each is one, set in order
abbrev pub replies_in : List (List ℕ × Judgement) → Items → Option (List (List ℕ × Judgement))
replies_in replies no_items = Some replies
replies_in replies (item d ds) =
    option_and_then (λ kept. replies_in (with_kept replies kept) ds) (reply_in d)

-- ---- lists of values

-- 1 to 100,000 values
abbrev pub has_allowed_length : Items → Bool
has_allowed_length ds = nat_le 1 (items_len ds) && nat_le (items_len ds) 100000

-- at most `most_replies` values
abbrev pub is_short : Items → Bool
is_short ds = nat_le (items_len ds) most_replies

-- the first entry says that call 0 is wrong
abbrev pub says_wrong : What → Bool
says_wrong (Judged call Wrong) = call == 0
says_wrong _ = false

abbrev pub is_wrong_entry : Option Entry → Bool
is_wrong_entry (Some entry) = says_wrong entry.what
is_wrong_entry None = false

abbrev pub begins_wrong : List Entry → Bool
begins_wrong entries = is_wrong_entry (slice_get entries 0)

-- ---- a session

-- a budget of steps: 1 to 4,000,000
abbrev pub is_budget : ℕ → Bool
is_budget n = nat_le 1 n && nat_le n 4000000

abbrev pub budget_at : Data → Option ℕ
budget_at d = only_if is_budget (whole_under (codes "budget") d)

-- the values under "entries", if there are 1 to 100,000
abbrev pub values_at : Data → Option Items
values_at d = only_if has_allowed_length (option_and_then as_array (get (codes "entries") d))

-- the entries that they are, if each is one and the first says that call 0 is wrong
abbrev pub entries_at : Data → Option (List Entry)
entries_at d = only_if begins_wrong (option_and_then entries_in (values_at d))

-- the notes on them; version 1 has none
abbrev pub notes_at : (version : ℕ) → Data → Option (List (ℕ × List ℕ))
notes_at version d =
    if version == first_version then Some [] else option_and_then (notes_in 1) (values_at d)

-- the values under "replies", if there are at most `most_replies`
abbrev pub reply_values_at : Data → Option Items
reply_values_at d = only_if is_short (option_and_then as_array (get (codes "replies") d))

-- the replies that they are, set in order; version 1 has none
abbrev pub replies_at : (version : ℕ) → Data → Option (List (List ℕ × Judgement))
replies_at version d =
    if version == first_version then Some [] else option_and_then (replies_in []) (reply_values_at d)

-- goes on with what stands in a field, or refuses the field
abbrev pub with_field : {A : Type 0} → SessionField → Option A → (A → Result Session LoadFault)
    → Result Session LoadFault
with_field field (Some a) rest = rest a
with_field field None rest = Err (BadShape field)

-- the session with the replies of its version
abbrev pub with_replies : Data → Session → Result Session LoadFault
with_replies d s =
    with_field Replies (replies_at s.version d) (λ replies. Ok (record s { replies = replies }))

-- the session with the notes and the replies of its version
abbrev pub with_notes : Data → Session → Result Session LoadFault
with_notes d s =
    with_field Entries (notes_at s.version d) (λ notes. with_replies d (record s { notes = notes }))

-- the fields after the version, in the order in which they are looked at
abbrev pub fields_read : (version : ℕ) → Data → Result Session LoadFault
fields_read version d =
    with_field Source (digest_at (codes "source") d) (λ source.
    with_field Input (digest_at (codes "input") d) (λ input.
    with_field Budget (budget_at d) (λ budget.
    with_field Entries (entries_at d) (λ entries.
    with_notes d (record {
      version = version;
      source = source;
      input = input;
      budget = budget;
      entries = entries;
      notes = [];
      replies = [];
    })))))

-- a version that is read
abbrev pub is_version : ℕ → Bool
is_version n = nat_le first_version n && nat_le n this_version

-- the session that a value is: the version is looked at first
abbrev pub session_in : Data → Result Session LoadFault
session_in d =
    with_field Version (whole_under (codes "version") d) (λ version.
    if is_version version then fields_read version d else Err (BadVersion version))

-- the value that all these tokens are, if they are one that nests no deeper than 127
abbrev pub text_read : List Token → Option Data
text_read ts = option_and_then of_json (option_and_then (λ p. if_last p.0 p.1) (value max_depth ts))

-- the value that the bytes are, if they are JSON in UTF-8 that nests no deeper than 127
abbrev pub json_of : List ℕ → Option Data
json_of bytes = if is_utf8 bytes then read bytes else None

abbrev pub session_or_fault : Option Data → Result Session LoadFault
session_or_fault (Some d) = session_in d
session_or_fault None = Err NotJson

-- the session that the bytes are, or why they are none
unfoldable pub session_of : List ℕ → Result Session LoadFault
session_of bytes = session_or_fault (json_of bytes)
