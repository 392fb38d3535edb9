use Rattle.std.proofs.Common.{if◌then◌else◌, ◌∙◌, ap}
use Rattle.evaluator.proofs.after_parts.again.Goals as goal
use Rattle.evaluator.specs.Rest.{from, from_under}
use Rattle.evaluator.specs.declared.tasks.{Next.Next, Now.TheVariants.Begin, Now.TheVariants.Came, Part.Part, Task.Task, Way.Way}

pub returns-then-taken-clause-turns : goal.returns-then-taken-clause-turns
returns-then-taken-clause-turns c p m u same =
    c.wait.ensures.turns p m u (same ∙ ap (λ b. if b then from_under p c.args.body.now (Begin (Part.Exec c.args.inner c.args.line)) (Task.Next (Next.Again
    c.args.row c.args.line)) else from p c.args.body.now (Came Way.Nothing)) c.if-taken.true)

pub returns-else-taken-clause-turns : goal.returns-else-taken-clause-turns
returns-else-taken-clause-turns c p m u same =
    c.go.ensures.turns p m u (same ∙ ap (λ b. if b then from_under p c.args.body.now (Begin (Part.Exec c.args.inner c.args.line)) (Task.Next (Next.Again
    c.args.row c.args.line)) else from p c.args.body.now (Came Way.Nothing)) c.if-taken.false)
