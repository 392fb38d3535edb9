use Rattle.std.{proofs.Common.◌≡◌, proofs.Common.drop, specs.List.list_all}
use Rattle.session_file.proofs.notes.are_printed.Given as goal
use Rattle.session_file.specs.Notes.{is_printed}

abbrev pub invariant-bytes : goal.invariant-bytes
invariant-bytes l = list_all is_printed (drop l.byte-index l.text) ≡ list_all is_printed l.text
