use Rattle.std.proofs.Common.{◌<◌, ◌==◌, ◌≡◌, ℕ, false, slice_index}
use Rattle.answer_reuse.proofs.classes.Classes.next.Given as goal

abbrev pub invariant-later : goal.invariant-later
invariant-later l = (k : ℕ) → l.call < k → k < l.other → (slice_index l.self k == l.least) ≡ false
