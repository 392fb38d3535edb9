use Rattle.std.proofs.Common.{◌≡◌, drop, map}
use Rattle.edge_ports.specs.Shelves.{ShelfState}
use Rattle.web_page.proofs.request.put_files.Given as goal
use Rattle.web_page.specs.{Given.with_files, Turns.file_given}

-- what is left of the files makes of the shelf what all of them make of it as it was
abbrev pub invariant-loop-file : goal.invariant-loop-file
invariant-loop-file l =
    ◌≡◌ {A = ShelfState} (record l.shelf { files = with_files l.shelf.files (map file_given (drop l.file-index l.files)) })
    (record l.fn.shelf { files = with_files l.fn.shelf.files (map file_given l.files) })
