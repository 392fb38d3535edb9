use Rattle.std.proofs.Common.{◌*◌, ◌+◌, ◌-◌, ◌≡◌}
use Rattle.check_steps.proofs.headings.+congruous.Given as goal
use Rattle.check_steps.specs.Headings.{lists_match}

abbrev pub decreases-signatures_match : goal.decreases-signatures_match
decreases-signatures_match l = 3 * l.most + 1

abbrev pub decreases-sections_match : goal.decreases-sections_match
decreases-sections_match l = 3 * l.most + 2

abbrev pub decreases-lists_match : goal.decreases-lists_match
decreases-lists_match l = 3 * l.most

abbrev pub invariant-lists_match-sections : goal.invariant-lists_match-sections
invariant-lists_match-sections l =
    lists_match (l.most - l.passed) l.program l.at l.other ≡ lists_match l.most l.program l.left l.right
