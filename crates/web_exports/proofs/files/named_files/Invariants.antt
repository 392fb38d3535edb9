use Rattle.std.proofs.Common.{◌≡◌, [], drop, map}
use Rattle.web_page.specs.Turns.{file_given}
use Rattle.web_exports.proofs.files.named_files.Given as goal
use Rattle.web_exports.specs.Files.{files_in}

-- the files so far, and those that are left, are all of them
abbrev pub invariant-loop-sizes : goal.invariant-loop-sizes
invariant-loop-sizes l =
    files_in (map file_given l.files.items) (drop l.sizes-index l.sizes) l.left ≡ files_in [] l.sizes l.fn.bytes
