use Rattle.std.proofs.Common.{◌∙◌, ap, sym}
use Rattle.evaluator.proofs.{Moves.comes_same, Turning.reverse_pushed}
use Rattle.evaluator.proofs.sets.gather_from.Goals as goal
use Rattle.evaluator.specs.{Rest.left_now, Rest.lists_of, Rest.tasks_of, declared.tasks.Now.TheVariants.Begin, declared.tasks.Part.Part}

pub returns-clause-turns : goal.returns-clause-turns
returns-clause-turns c p m u same =
    let a = c.args.body.now in
    comes_same (same ∙ sym (ap (λ vs. left_now p a.home (Begin (Part.Gather c.args.at c.args.line)) (tasks_of a) vs (lists_of a))
    (reverse_pushed a.values.items _ c.args.set c.in_ok-push.ensures.items)))
