use Rattle.std.proofs.Common.{◌≡◌, take}
use Rattle.dialog_replies.proofs.saving.entries_now.Given as goal

abbrev pub invariant-places : goal.invariant-places
invariant-places l = l.entries ≡ take l.place l.debug.book.entries
