-- The exit status.
use Rattle.std.specs.Prelude.{ℕ, Bool, false, true}
use Rattle.ask_session.specs.declared.dialog.Ending.{Ending}
use Rattle.debug_cli.specs.declared.status.Status.{Status, TheVariants.Spent, TheVariants.Words}
use Rattle.debug_cli.specs.declared.status.Status.TheVariants.{Console, Done, File, Memory, Screen, Session, Source}

abbrev pub code_of : Status → ℕ
code_of Done = 0
code_of Words = 2
code_of Source = 3
code_of File = 4
code_of Console = 5
code_of Screen = 6
code_of Memory = 7
code_of Session = 8
code_of Spent = 9

-- the screen failed
abbrev pub is_screen : Status → Bool
is_screen Screen = true
is_screen _ = false

-- the console failed
abbrev pub is_console : Status → Bool
is_console Console = true
is_console _ = false

-- the status of a session that ended so
abbrev pub session_status : Ending → Status
session_status Ending.Done = Done
session_status Ending.Console = Console
session_status Ending.Screen = Screen
session_status Ending.Spent = Spent
session_status Ending.Refused = Session
session_status Ending.Memory = Memory
