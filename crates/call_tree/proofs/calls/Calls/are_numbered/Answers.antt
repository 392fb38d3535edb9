use Rattle.std.proofs.Common.{◌∙◌, ◌≡◌, [], ap, reverse}
use Rattle.call_tree.proofs.LeavingKeepsNesting.{left_calls_are_numbered}
use Rattle.call_tree.proofs.calls.Calls.are_numbered.Goals as goal

pub returns-clause-numbered : goal.returns-clause-numbered
returns-clause-numbered c =
    let all_left : reverse c.self.inside.open_calls.items ≡ [] = ap (λ r. r.open_calls) c.self.view_is ∙ c.requires.all_left in
    let nested = rw all_left at c.self.invariant.nested in
    rw (← c.self.view_is) (left_calls_are_numbered _ _ _ nested)
