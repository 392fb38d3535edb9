use Rattle.std.proofs.Common.{◌≡◌, drop}
use Rattle.dialog_replies.proofs.saving.replies_with.Given as goal
use Rattle.dialog_replies.specs.{Kept.AreDigestsOf, Said.with_entries}

abbrev pub invariant-places : goal.invariant-places
invariant-places g l =
    let s = g.D.Debugged.subject l.run in
    let entries = l.debug.book.entries in
    record {
      so_far : with_entries s l.replies (drop l.place entries) ≡ with_entries s l.loaded entries;
      digests : AreDigestsOf s l.digests;
    }
