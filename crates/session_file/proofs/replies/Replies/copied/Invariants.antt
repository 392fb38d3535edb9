use Rattle.session_file.proofs.RepliesInOrder.{AreCopied}
use Rattle.session_file.proofs.replies.Replies.copied.Given as goal

abbrev pub invariant-places : goal.invariant-places
invariant-places l = AreCopied l.self l.place l.copy
