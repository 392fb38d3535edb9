-- The sessions that are loaded as they were saved.
use Rattle.std.specs.Prelude.{◌<◌, ◌^◌, ◌≡◌, ◌≤◌, [], ℕ, All, IsTrue, List, length}
use Rattle.std.specs.Map.{keys_of}
use Rattle.hex.specs.Hex.{IsBytes}
use Rattle.answer_book.specs.declared.entries.What.{What, TheVariants.Judged, TheVariants.Trusted}
use Rattle.session_file.specs.{Notes.AreNotes, Reading.begins_wrong, Replies.AreReplies, Text.first_version}
use Rattle.session_file.specs.{Text.this_version, declared.session.Session.Session}

-- 32 bytes
pub record IsDigest (digest : List ℕ) : Type 0 where
  pub size : length digest ≡ 32
  pub each : IsBytes digest

-- a call or a routine has a number of 32 bits
abbrev pub NumberFits : What → Type 0
NumberFits (Judged call judgement) = call < 2 ^ 32
NumberFits (Trusted routine) = routine < 2 ^ 32

-- two digests, a budget from 1 to 4,000,000, and 1 to 100,000 entries of which the first says that call 0 is wrong;
-- notes on entries that are there; and at most `most_replies` replies to different questions
pub record IsWhole (s : Session) : Type 0 where
  pub source : IsDigest s.source
  pub input : IsDigest s.input
  pub steps : 1 ≤ s.budget
  pub budget : s.budget ≤ 4000000
  pub some : 1 ≤ length s.entries
  pub few : length s.entries ≤ 100000
  pub first : IsTrue (begins_wrong s.entries)
  pub numbered : All (λ entry. NumberFits entry.what) s.entries
  pub noted : AreNotes s.notes
  pub on_entries : All (λ entry. entry ≤ length s.entries) (keys_of s.notes)
  pub replied : AreReplies s.replies
  pub questions : All IsDigest (keys_of s.replies)

-- the same session as one of version 2
abbrev pub in_this_version : Session → Session
in_this_version s = record s { version = this_version }

-- what version 1 has of it
abbrev pub in_first_version : Session → Session
in_first_version s = record s { version = first_version; notes = []; replies = [] }
