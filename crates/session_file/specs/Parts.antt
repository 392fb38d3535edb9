-- A session by its parts: the fields of its text, and what its lists are.
use Rattle.std.specs.Prelude.{if◌then◌else◌, ◌==◌, ◌≡◌, [], ℕ, Err, List, Ok, Option, Result, Some, codes, option_map}
use Rattle.serde_json.specs.{Data.Data, Data.Members, Find.get_member, View.members_view}
use Rattle.answer_book.specs.declared.entries.Judgement.{Judgement}
use Rattle.session_file.specs.{Listed.answered_in, Listed.listed_in, Shown.Shows, Text.first_version}
use Rattle.session_file.specs.Reading.{begins_wrong, budget_at, digest_at, is_version, only_if, whole_under, with_field}
use Rattle.session_file.specs.declared.{listed.Listed.Listed, parts.Parts.Parts, replied.Answered.Answered}
use Rattle.session_file.specs.declared.session.{Session.Session, SessionField.TheVariants.Version}
use Rattle.session_file.specs.declared.session.LoadFault.{LoadFault, TheVariants.BadVersion}
use Rattle.session_file.specs.declared.session.SessionField.TheVariants.{Budget, Entries, Input, Replies, Source}

-- these are the parts of an object
pub record AreParts (parts : Parts) (members : Members) : Type 0 where
  pub fields : Shows (members_view parts.fields.entries) members
  pub entries : parts.entries ≡ listed_in (get_member (codes "entries") members)
  pub replies : parts.replies ≡ answered_in (get_member (codes "replies") members)

-- entries of which the first says that call 0 is wrong
abbrev pub begun_wrong : Option Listed → Option Listed
begun_wrong listed = only_if (λ l. begins_wrong l.entries) listed

-- the notes on them; version 1 has none
abbrev pub notes_by : (version : ℕ) → Option (List (ℕ × List ℕ)) → Option (List (ℕ × List ℕ))
notes_by version notes = if version == first_version then Some [] else notes

-- the replies; version 1 has none
abbrev pub replies_by : (version : ℕ) → Option Answered → Option (List (List ℕ × Judgement))
replies_by version answered = if version == first_version then Some [] else option_map (λ a. a.replies) answered

-- the session with its replies
abbrev pub answered_by : Session → Option Answered → Result Session LoadFault
answered_by s answered = with_field Replies (replies_by s.version answered)
    (λ replies. Ok (record s { replies = replies }))

-- the session with its entries, notes and replies
abbrev pub listed_by : Session → Option Listed → Option Answered → Result Session LoadFault
listed_by s listed answered =
    with_field Entries (begun_wrong listed) (λ l.
    with_field Entries (notes_by s.version l.notes) (λ notes.
    answered_by (record s { entries = l.entries; notes = notes }) answered))

-- the fields after the version, in the order in which they are looked at
abbrev pub fields_by : (version : ℕ) → Data → Option Listed → Option Answered → Result Session LoadFault
fields_by version d listed answered =
    with_field Source (digest_at (codes "source") d) (λ source.
    with_field Input (digest_at (codes "input") d) (λ input.
    with_field Budget (budget_at d) (λ budget.
    listed_by (record {
      version = version;
      source = source;
      input = input;
      budget = budget;
      entries = [];
      notes = [];
      replies = [];
    }) listed answered)))

-- the session of these parts: the version is looked at first
abbrev pub session_by : Data → Option Listed → Option Answered → Result Session LoadFault
session_by d listed answered =
    with_field Version (whole_under (codes "version") d) (λ version.
    if is_version version then fields_by version d listed answered else Err (BadVersion version))
