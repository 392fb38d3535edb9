use Rattle.dialog_replies.proofs.RepliesInTurn.{set_more}
use Rattle.dialog_replies.proofs.saving.replies_with.Goals as goal
use Rattle.dialog_replies.specs.Said.{with_entries}

pub places-preserved : goal.places-preserved
places-preserved g c =
    let s = g.D.Debugged.subject c.args.run.now in
    let entries = c.args.debug.now.book.entries in
    record {
      so_far = set_more s entries c.places.place c.entry_in-entry.result c.places.replies c.set_entry.new.replies (with_entries s c.args.loaded.now entries)
          c.entry_in-entry.ensures.found c.in_ok-set_entry.ensures.set c.places.invariant.so_far;
      digests = c.set_entry.ensures.digests;
    }
