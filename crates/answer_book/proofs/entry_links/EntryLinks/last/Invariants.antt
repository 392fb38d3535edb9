use Rattle.std.proofs.Common.{◌+◌, length}
use Rattle.answer_book.proofs.entry_links.EntryLinks.last.Given as goal
use Rattle.answer_book.specs.Links.{LeadsBack}

abbrev pub invariant-back : goal.invariant-back
invariant-back l = LeadsBack l.self-inside.subject l.entries l.chain (length l.entries + 1) l.number

abbrev pub decreases-back : goal.decreases-back
decreases-back l = l.number
