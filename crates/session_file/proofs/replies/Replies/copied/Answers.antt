use Rattle.session_file.proofs.RepliesInOrder.{one_copied}
use Rattle.session_file.proofs.replies.Replies.copied.Goals as goal

pub places-preserved : goal.places-preserved
places-preserved c = one_copied _ _ _ _ _ c.at-reply.ensures c.in_ok-set.ensures.set c.places.invariant
