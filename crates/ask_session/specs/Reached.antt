-- How far a dialog came.
use Rattle.std.specs.Prelude.{◌+◌, ◌<◌, ◌≡◌, ◌≤◌, ◌⊎◌, ℕ, List, Option, length, take}
use Rattle.edge_ports.specs.Told.{GavePrefix}
use Rattle.dialog_replies.specs.{Said.Held, Subject.Subject, declared.start.Start.Start}
use Rattle.ask_session.specs.Dialog.{Granted, all_printed, line_replies}
use Rattle.ask_session.specs.Wishes.{Wish, wishes_asked, wishes_in}

-- what is said of lines, by what those were given that ask the keeper, and what they ask for
pub record Telling : Type 0 where
  pub text : (granted : List Granted) → (lines : List (List ℕ)) → List ℕ
  pub asked : (granted : List Granted) → (lines : List (List ℕ)) → List Wish

-- of the lines of a session, its opening included
abbrev pub telling : Subject → Start → Telling
telling s start = record { text = all_printed s start; asked = wishes_in s start }

-- of lines that are replied from what is held on
abbrev pub telling_from : Subject → Start → Held → Telling
telling_from s start held = record { text = line_replies s held; asked = wishes_asked s start held }

-- These are the answers to the wishes of the first lines, so many of them; or to that of the line after them too.
abbrev pub AnswersFirst : Telling → (lines : List (List ℕ)) → (count : ℕ) → (granted : List Granted) → Type 0
AnswersFirst t lines count granted =
    (length granted ≡ length (t.asked granted (take count lines)))
    ⊎ ((count < length lines) × (length granted ≡ length (t.asked granted (take (count + 1) lines))))

-- The screen got no more than what is said of so many lines, and each of their wishes was answered: so a line of whose
-- reply the screen got anything was answered as it was replied. Of the line after them alone the keeper may have
-- answered and the reply be missing.
pub record Reached (t : Telling) (lines : List (List ℕ)) (granted : List Granted) (given given' : Option (List ℕ))
    : Type 0
  where
    pub count : ℕ
    pub within : count ≤ length lines
    pub answered : AnswersFirst t lines count granted
    pub gave : GavePrefix given given' (t.text granted (take count lines))
