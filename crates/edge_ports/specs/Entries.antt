-- The files of a shelf, as the entries that stand for them: the newest entry of a name counts.
use Rattle.std.specs.{Prelude.ℕ, Prelude.List, Prelude.map, FinMap.from_entries}
use Rattle.edge_ports.specs.{Files.FileMap, declared.shelf.ShelvedFile.ShelvedFile}

-- a name and its file
abbrev pub entry_of : ShelvedFile → List ℕ × List ℕ
entry_of entry = (entry.name.items, entry.bytes.items)

-- the files that these entries stand for, the newest first
abbrev pub files_of : List ShelvedFile → FileMap
files_of entries = from_entries (map entry_of entries)
