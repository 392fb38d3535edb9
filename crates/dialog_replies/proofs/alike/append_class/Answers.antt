use Rattle.std.proofs.Common.{if◌then◌else◌, ◌++◌, ◌==◌, ◌∙◌, [], ℕ, Bool, List, ap, slice_index}
use Rattle.dialog_replies.proofs.AlikeInTurn.{told_more}
use Rattle.dialog_replies.proofs.alike.append_class.Goals as goal
use Rattle.dialog_replies.specs.Replies.{numbered}

pub calls-preserved : goal.calls-preserved
calls-preserved c =
    let is_one : ℕ → Bool = λ other. slice_index c.args.classes.now other == c.least-least.result in
    c.in_ok-append_if.ensures
    ∙ ap (λ (b : Bool). c.calls.text ++ (if b then numbered c.calls.other else [])) c.is_of.ensures
    ∙ ap (λ (l : List ℕ). l ++ (if is_one c.calls.other then numbered c.calls.other else [])) c.calls.invariant
    ∙ told_more is_one c.args.text.now c.calls.other
