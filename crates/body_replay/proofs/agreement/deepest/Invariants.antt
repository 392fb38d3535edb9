use Rattle.std.proofs.Common.{◌+◌, ◌-◌, ◌≡◌, drop, fold, max, take}
use Rattle.call_tree.specs.Recording.{depths_of}
use Rattle.body_replay.proofs.agreement.deepest.Given as goal

abbrev pub invariant-below : goal.invariant-below
invariant-below l =
    fold max l.deepest (take (l.row.last + 1 - l.below) (drop l.below (depths_of l.calls.calls)))
    ≡ fold max l.row.depth (take (l.row.last - l.number) (drop (l.number + 1) (depths_of l.calls.calls)))
