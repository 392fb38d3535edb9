-- How a dialog went.
use Rattle.std.specs.Prelude.{List}
use Rattle.dialog_replies.specs.{Fit.misfit, Subject.Subject, declared.start.Start.Start}
use Rattle.ask_session.specs.{Outside.Outside, Reached.Reached, Reached.telling, declared.dialog.Ending.Ending}
use Rattle.ask_session.specs.Dialog.{Granted, all_printed}
use Rattle.ask_session.specs.Heard.{EndedBy, GaveBy, Heard, IsHeard, RefusedBy, lines_in}
use Rattle.ask_session.specs.Wishes.{AreAnswered, AreReadIn, CountsAfter, FilesAfter, Reads, wishes_in}

-- A dialog about a run went so: what was heard of the console and why it ended; what each line was given that asks the
-- keeper, and that bytes were read as what they are; what the screen got, and how many lines were answered; and what
-- became of the files, by the replies alone, and of the keeper's counts.
pub record Went (reads : Reads) (s : Subject) (start : Start) (before : Outside) (e : Ending) (after : Outside) : Type 0
  where
    pub heard : Heard
    pub granted : List Granted
    pub is_heard : IsHeard before.streams.left after.streams.left heard
    pub ended : EndedBy e heard
    pub refused : RefusedBy e (misfit s start)
    pub read : AreReadIn reads granted
    pub answered : AreAnswered e granted (wishes_in s start granted (lines_in heard))
    pub gave : GaveBy e before.streams.given after.streams.given (all_printed s start granted (lines_in heard))
    pub reached : Reached (telling s start) (lines_in heard) granted before.streams.given after.streams.given
    pub files : FilesAfter granted (wishes_in s start granted (lines_in heard)) before.files after.files
    pub counts : CountsAfter e granted before.counts after.counts
