use Rattle.std.proofs.Common.{◌+◌, ◌≡◌, drop}
use Rattle.dialog_replies.proofs.fit.entries_misfit.Given as goal
use Rattle.dialog_replies.specs.Fit.{entries_misfit}

abbrev pub invariant-places : goal.invariant-places
invariant-places g l =
    let s = g.D.Debugged.subject l.run in
    entries_misfit s (l.place + 1) (drop l.place l.entries) ≡ entries_misfit s 1 l.entries
