-- How a process ends that is the command.
use Rattle.std.specs.{Prelude.◌≡◌, Prelude.Option, Process.exit_status, declared.process.ExitCode.ExitCode}
use Rattle.ask_session.specs.Outside.{Outside}
use Rattle.debug_cli.specs.{Goes.Goes, Meaning.Meant, Status.code_of, declared.status.Status.Status}

-- the code is the status, and what was done is what the command does where that is its status
abbrev pub EndsAs : ExitCode → Option Meant → (before after : Outside) → Type 0
EndsAs code m before after = (status : Status) × (exit_status code ≡ code_of status) × Goes m before after status

-- so it is for some words, and for some files, console and screen
abbrev pub EndsAsCommand : ExitCode → Type 0
EndsAsCommand code = (m : Option Meant) × (before : Outside) × (after : Outside) × EndsAs code m before after
