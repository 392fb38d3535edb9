-- What is printed of words, files, sources and sessions that are refused.
use Rattle.std.specs.Prelude.{◌++◌, [], ℕ, List, codes, decimal}
use Rattle.edge_ports.specs.declared.ports.FetchFault.{FetchFault}
use Rattle.code_checker.specs.declared.faults.SourceRefusal.{SourceRefusal}
use Rattle.session_file.specs.declared.session.{LoadFault.LoadFault, SessionField.SessionField}
use Rattle.debuggee.specs.Refusing.{refusal_at}

abbrev pub usage_line : List ℕ
usage_line = codes "usage: pasask SOURCE [--input F] [--budget N] [--load F]\n"

abbrev pub absent_line : List ℕ → List ℕ
absent_line name = codes "file: absent " ++ name ++ codes "\n"

abbrev pub failed_line : List ℕ → List ℕ
failed_line name = codes "file: failed " ++ name ++ codes "\n"

abbrev pub too_long_line : List ℕ → List ℕ
too_long_line name = codes "file: too long " ++ name ++ codes "\n"

-- the line on a file that could not be fetched
abbrev pub file_line : FetchFault → List ℕ → List ℕ
file_line FetchFault.Absent name = absent_line name
file_line FetchFault.Failed name = failed_line name
file_line (FetchFault.TooLong limit) name = too_long_line name
file_line FetchFault.Memory name = []

-- a source that is no program of the language, at a place of it
abbrev pub refused_line : SourceRefusal → (line byte : ℕ) → List ℕ
refused_line why line byte =
    codes "refused: " ++ refusal_at why line byte ++ codes "\n"

-- the key of a field of a session's text
abbrev pub field_key : SessionField → List ℕ
field_key SessionField.Version = codes "version"
field_key SessionField.Source = codes "source"
field_key SessionField.Input = codes "input"
field_key SessionField.Budget = codes "budget"
field_key SessionField.Entries = codes "entries"
field_key SessionField.Replies = codes "replies"

-- the line on a file that is no session
abbrev pub session_line : LoadFault → List ℕ
session_line LoadFault.NotJson = codes "session: NotJson\n"
session_line (LoadFault.BadShape field) = codes "session: BadShape " ++ field_key field ++ codes "\n"
session_line (LoadFault.BadVersion version) = codes "session: BadVersion " ++ decimal version ++ codes "\n"
session_line LoadFault.Memory = []
