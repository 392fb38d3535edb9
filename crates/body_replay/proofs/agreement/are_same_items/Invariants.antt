use Rattle.std.proofs.Common.{◌+◌, ◌<◌, ◌≡◌, ℕ, slice_get}
use Rattle.body_replay.proofs.agreement.are_same_items.Given as goal

abbrev pub invariant-looked : goal.invariant-looked
invariant-looked l = (k : ℕ) → k < l.n → slice_get l.items (l.place + k) ≡ slice_get l.others (l.from + k)
