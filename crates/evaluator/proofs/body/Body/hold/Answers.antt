use Rattle.std.proofs.Common.{◌∙◌, ◌∷◌, ap, sym}
use Rattle.evaluator.proofs.{Moves.comes_same, Turning.reverse_pushed}
use Rattle.evaluator.proofs.body.Body.hold.Goals as goal
use Rattle.evaluator.specs.Rest.{left_now, lists_of, tasks_of, values_of}

pub returns-clause-turns : goal.returns-clause-turns
returns-clause-turns c p m u e = comes_same (e ∙ sym (
    ap (λ ts. left_now p c.args.self.now.home c.args.now ts (values_of (record c.args.self.now { values = c.push.new.self })) (lists_of c.args.self.now))
    (reverse_pushed c.args.self.now.tasks.items _ c.args.task c.in_ok-push-2.ensures.items)
    ∙ ap (λ vs. left_now p c.args.self.now.home c.args.now (c.args.task ∷ tasks_of c.args.self.now) vs (lists_of c.args.self.now))
    (reverse_pushed c.args.self.now.values.items _ c.args.value c.in_ok-push.ensures.items)))
