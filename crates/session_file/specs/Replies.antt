-- Replies to questions, each by the digest of the question's text.
use Rattle.std.specs.Prelude.{if◌then◌else◌, ◌||◌, ◌≤◌, ℕ, Bool, List, Option, is_some, length, nat_lt}
use Rattle.std.specs.{List.IsDistinct, Map.keys_of, Map.lookup, Str.bytes_eq}
use Rattle.indexmap.specs.IndexMap.{insert_entry}
use Rattle.answer_book.specs.declared.entries.Judgement.{Judgement}
use Rattle.session_file.specs.Limits.{most_replies}

-- the reply to the question of this digest
abbrev pub reply_to : List (List ℕ × Judgement) → (digest : List ℕ) → Option Judgement
reply_to replies digest = lookup (bytes_eq digest) replies

-- there is a reply to this question, or there are fewer than `most_replies` to others
abbrev pub takes_reply : List (List ℕ × Judgement) → (digest : List ℕ) → Bool
takes_reply replies digest = is_some (reply_to replies digest) || nat_lt (length replies) most_replies

-- the replies once this one is set: in the place of an older one, or else last, and left out where there is no room
abbrev pub with_reply : List (List ℕ × Judgement) → (digest : List ℕ) → Judgement → List (List ℕ × Judgement)
with_reply replies digest reply =
    if takes_reply replies digest then insert_entry bytes_eq replies digest reply else replies

-- at most `most_replies` replies to different questions
pub record AreReplies (replies : List (List ℕ × Judgement)) : Type 0 where
  pub few : length replies ≤ most_replies
  pub different : IsDistinct bytes_eq (keys_of replies)
