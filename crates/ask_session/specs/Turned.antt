-- What the code of the dialog does with one line, and with all of them.
use Rattle.std.specs.Prelude.{◌++◌, ◌<◌, ◌∷◌, ◌≡◌, ◌≤◌, ◌⊎◌, [], ℕ, Bool, Err, IsTrue, List, Ok, Option, Result, Some}
use Rattle.std.specs.Prelude.{false, length, true}
use Rattle.edge_ports.specs.{Counts.KeeperCounts, Files.FileMap, Limits.console_bytes, Told.GaveAll, Told.GavePrefix}
use Rattle.edge_ports.specs.Lines.{LinesState, handed_lines, lines_heard}
use Rattle.dialog_replies.specs.{Prepared.text_of_reply, Said.Held, Said.Said, Subject.Subject}
use Rattle.dialog_replies.specs.declared.{reply.Reply.Reply, start.Start.Start}
use Rattle.dialog_replies.specs.declared.reply.Reply.TheVariants as replies
use Rattle.ask_session.specs.{Outside.Outside, Reached.Reached, Reached.telling_from, declared.dialog.Ending.Ending}
use Rattle.ask_session.specs.Dialog.{Errand, Granted, ends_among, ends_session, errand_in, errand_reply}
use Rattle.ask_session.specs.Dialog.{granted_after_line, held_after_line, held_at_start, line_replies, line_reply}
use Rattle.ask_session.specs.Dialog.{next_granted, reference_after}
use Rattle.ask_session.specs.Heard.{EndedBy, GaveBy, Heard, IsHeard, is_console, is_screen, lines_in}
use Rattle.ask_session.specs.Wishes.{AreAnswered, AreReadIn, CountsAfter, FilesAfter, Reads, Wish, counts_granted}
use Rattle.ask_session.specs.Wishes.{wishes_asked, wishes_in}

-- what is held, and the keeper's files and counts, at one moment of a dialog
pub record DialogMoment : Type 0 where
  pub held : Held
  pub files : Option FileMap
  pub counts : KeeperCounts

-- how far a dialog has come: that, and the reader of the lines
pub record Progress : Type 0 where
  pub moment : DialogMoment
  pub lines : LinesState

-- how far it has come, and what the screen was given
pub record DialogStage : Type 0 where
  pub progress : Progress
  pub given : Option (List ℕ)

-- a moment, and the line that is to be answered then
pub record LineAt : Type 0 where
  pub line : List ℕ
  pub moment : DialogMoment

-- some lines of a console, and what those were given that ask the keeper
pub record Talk : Type 0 where
  pub lines : List (List ℕ)
  pub granted : List Granted

abbrev pub one_line : List ℕ → List Granted → Talk
one_line line granted = record { lines = line ∷ []; granted = granted }

-- what is held after lines none of which ends the session
abbrev pub held_through : Subject → Held → (granted : List Granted) → (lines : List (List ℕ)) → Held
held_through s held granted [] = held
held_through s held granted (line ∷ lines) =
    held_through s (held_after_line s held (next_granted granted) line)
    (granted_after_line (errand_in line) granted) lines

-- these lines were answered, and none of them ends the session
pub record Passes (reads : Reads) (s : Subject) (start : Start) (old : DialogMoment) (talk : Talk) (new : DialogMoment)
    : Type 0
  where
    pub on : ends_among talk.lines ≡ false
    pub read : AreReadIn reads talk.granted
    pub held_is : new.held ≡ held_through s old.held talk.granted talk.lines
    pub answered : length talk.granted ≡ length (wishes_asked s start old.held talk.granted talk.lines)
    pub files_are : FilesAfter talk.granted (wishes_asked s start old.held talk.granted talk.lines) old.files new.files
    pub counts_are : new.counts ≡ counts_granted talk.granted old.counts

-- memory ran out at this line, after its wish was answered or before
pub record BreaksOff (reads : Reads) (s : Subject) (start : Start) (old : DialogMoment) (line : List ℕ)
    (new : DialogMoment) : Type 0
  where
    pub granted : List Granted
    pub read : AreReadIn reads granted
    pub answered : length granted ≤ length (wishes_asked s start old.held granted (line ∷ []))
    pub files_are : FilesAfter granted (wishes_asked s start old.held granted (line ∷ [])) old.files new.files
    pub counts_are : CountsAfter Ending.Memory granted old.counts new.counts

-- a text as the reply that is this text alone
abbrev pub reply_of_text : {C O T : Type 0} → Result (List ℕ) Ending → Result (Reply C O T) Ending
reply_of_text (Ok text) = Ok (replies.Text text)
reply_of_text (Err e) = Err e

-- what a call answers, with the text of the reply that it prepared
abbrev pub with_text : {C O T : Type 0} → Subject → Said → Result (Reply C O T) Ending → Result (List ℕ) Ending
with_text s said (Ok reply) = Ok (text_of_reply s said reply)
with_text s said (Err e) = Err e

-- A line asks the keeper for something: what its reply is, and what answers from then on; or that memory ran out.
-- Nothing is said by it.
abbrev pub ErrandGoes : Reads → Errand → Wish → DialogMoment → Result (List ℕ) Ending → DialogMoment → Type 0
ErrandGoes reads errand wish old (Ok reply) new =
    (granted : Granted) × AreReadIn reads (granted ∷ []) × (reply ≡ errand_reply errand granted)
    × (new.held ≡ record old.held { reference = reference_after old.held.reference (Some errand) granted })
    × FilesAfter (granted ∷ []) (wish ∷ []) old.files new.files
    × (new.counts ≡ counts_granted (granted ∷ []) old.counts)
ErrandGoes reads errand wish old (Err Ending.Memory) new =
    (granted : List Granted) × AreReadIn reads granted × (length granted ≤ 1)
    × FilesAfter granted (wish ∷ []) old.files new.files × CountsAfter Ending.Memory granted old.counts new.counts
ErrandGoes reads errand wish old (Err Ending.Done) new = ⊥
ErrandGoes reads errand wish old (Err Ending.Console) new = ⊥
ErrandGoes reads errand wish old (Err Ending.Screen) new = ⊥
ErrandGoes reads errand wish old (Err Ending.Spent) new = ⊥
ErrandGoes reads errand wish old (Err Ending.Refused) new = ⊥

-- the reply to a line, or that it ends the session
abbrev pub AnswersLine : Reads → Subject → Start → LineAt → Result (List ℕ) Ending → DialogMoment → Type 0
AnswersLine reads s start old (Ok reply) new =
    (granted : List Granted) × Passes reads s start old.moment (one_line old.line granted) new
    × (reply ≡ line_reply s old.moment.held (next_granted granted) old.line)
AnswersLine reads s start old (Err Ending.Memory) new = BreaksOff reads s start old.moment old.line new
AnswersLine reads s start old (Err Ending.Done) new = (ends_session old.line ≡ true) × (new ≡ old.moment)
AnswersLine reads s start old (Err Ending.Console) new = ⊥
AnswersLine reads s start old (Err Ending.Screen) new = ⊥
AnswersLine reads s start old (Err Ending.Spent) new = ⊥
AnswersLine reads s start old (Err Ending.Refused) new = ⊥

-- one more line was handed out
abbrev pub Hands : LinesState → LinesState → List ℕ → Type 0
Hands old new line = handed_lines new ≡ handed_lines old ++ line ∷ []

-- no more line can be answered, of those that were heard
abbrev pub HandsNone : LinesState → LinesState → Type 0
HandsNone old new = (handed_lines new ≡ handed_lines old) × (lines_heard new.ended new.taken ≡ handed_lines new)

-- the reply to the next line, or how the dialog ends
abbrev pub NextReply : Reads → Subject → Start → Progress → Result (List ℕ) Ending → Progress → Type 0
NextReply reads s start old (Ok reply) new =
    (line : List ℕ) × Hands old.lines new.lines line
    × AnswersLine reads s start (record { line = line; moment = old.moment }) (Ok reply) new.moment
NextReply reads s start old (Err Ending.Memory) new =
    (line : List ℕ) × Hands old.lines new.lines line
    × AnswersLine reads s start (record { line = line; moment = old.moment }) (Err Ending.Memory) new.moment
NextReply reads s start old (Err Ending.Done) new =
    ((line : List ℕ) × Hands old.lines new.lines line
    × AnswersLine reads s start (record { line = line; moment = old.moment }) (Err Ending.Done) new.moment)
    ⊎ (IsTrue new.lines.ended × HandsNone old.lines new.lines × (new.moment ≡ old.moment))
NextReply reads s start old (Err Ending.Console) new =
    (new.lines.ended ≡ false) × HandsNone old.lines new.lines × (length new.lines.taken < console_bytes)
    × (new.moment ≡ old.moment)
NextReply reads s start old (Err Ending.Spent) new =
    (new.lines.ended ≡ false) × HandsNone old.lines new.lines × (length new.lines.taken ≡ console_bytes)
    × (new.moment ≡ old.moment)
NextReply reads s start old (Err Ending.Screen) new = ⊥
NextReply reads s start old (Err Ending.Refused) new = ⊥

-- the reply was given, or how the dialog ends
abbrev pub ReplyGiven : Reads → Subject → Start → DialogStage → Result (Unit {0}) Ending → DialogStage → Type 0
ReplyGiven reads s start old (Ok _) new =
    (reply : List ℕ) × NextReply reads s start old.progress (Ok reply) new.progress × GaveAll old.given new.given reply
ReplyGiven reads s start old (Err Ending.Screen) new =
    (reply : List ℕ) × NextReply reads s start old.progress (Ok reply) new.progress
    × GavePrefix old.given new.given reply
ReplyGiven reads s start old (Err Ending.Done) new =
    NextReply reads s start old.progress (Err Ending.Done) new.progress × (new.given ≡ old.given)
ReplyGiven reads s start old (Err Ending.Console) new =
    NextReply reads s start old.progress (Err Ending.Console) new.progress × (new.given ≡ old.given)
ReplyGiven reads s start old (Err Ending.Spent) new =
    NextReply reads s start old.progress (Err Ending.Spent) new.progress × (new.given ≡ old.given)
ReplyGiven reads s start old (Err Ending.Memory) new =
    NextReply reads s start old.progress (Err Ending.Memory) new.progress × (new.given ≡ old.given)
ReplyGiven reads s start old (Err Ending.Refused) new = ⊥

-- the lines that were handed out since then were answered
pub record Answered (reads : Reads) (s : Subject) (start : Start) (first now : DialogStage) : Type 0 where
  pub granted : List Granted
  pub passes : Passes reads s start first.progress.moment
      (record { lines = handed_lines now.progress.lines; granted = granted }) now.progress.moment
  pub gave : GaveAll first.given now.given
      (line_replies s first.progress.moment.held granted (handed_lines now.progress.lines))

-- the lines of the console were answered, from what is held at the start on
pub record Talked (reads : Reads) (s : Subject) (start : Start) (before : Outside) (e : Ending) (after : Outside)
    : Type 0
  where
    pub heard : Heard
    pub granted : List Granted
    pub is_heard : IsHeard before.streams.left after.streams.left heard
    pub ended : EndedBy e heard
    pub not_refused : e ≡ Ending.Refused → ⊥
    pub read : AreReadIn reads granted
    pub answered : AreAnswered e granted (wishes_in s start granted (lines_in heard))
    pub gave : GaveBy e before.streams.given after.streams.given
        (line_replies s (held_at_start start) granted (lines_in heard))
    pub reached : Reached (telling_from s start (held_at_start start)) (lines_in heard) granted before.streams.given
        after.streams.given
    pub files : FilesAfter granted (wishes_in s start granted (lines_in heard)) before.files after.files
    pub counts : CountsAfter e granted before.counts after.counts

-- the console failed in a call that answers so
abbrev pub console_failed : {A : Type 0} → Result A Ending → Bool
console_failed (Ok x) = false
console_failed (Err e) = is_console e

-- the screen failed in a call that answers so
abbrev pub screen_failed : {A : Type 0} → Result A Ending → Bool
screen_failed (Ok x) = false
screen_failed (Err e) = is_screen e
