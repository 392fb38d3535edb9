use Rattle.session_file.proofs.EntriesInOrder.{AreWritten}
use Rattle.session_file.proofs.writing.reply_values.Given as goal

abbrev pub invariant-places : goal.invariant-places
invariant-places l = AreWritten l.replies l.place l.values.items
