use Rattle.std.proofs.Common.{◌++◌, ◌∙◌, ◌∷◌, [], ap, sym}
use Rattle.cell_value.specs.declared.values.Value.{Value}
use Rattle.evaluator.proofs.Turning.{reverse_pushed}
use Rattle.evaluator.proofs.counting.do_body.Goals as goal
use Rattle.evaluator.specs.Rest.{left_now, lists_of, tasks_of, values_of}
use Rattle.evaluator.specs.declared.tasks.{Next.Next, Now.TheVariants.Begin, Part.Part, Task.Task}

pub returns-clause-turns : goal.returns-clause-turns
returns-clause-turns c p m u same =
    c.hold.ensures.turns p m u (same ∙ ap (λ v. left_now p c.args.body.now.home (Begin (Part.Exec c.args.inner c.args.line)) (Task.Next (Next.Counted c.args.row
    c.args.line) ∷ tasks_of c.args.body.now) (v ∷ Value.Number c.args.span.value ∷ values_of c.args.body.now) (lists_of c.args.body.now)) (sym
    c.last_value.ensures) ∙ ap (λ vs. left_now p c.args.body.now.home (Begin (Part.Exec c.args.inner c.args.line)) (Task.Next (Next.Counted c.args.row
    c.args.line) ∷ tasks_of c.args.body.now) (c.last_value.result ∷ vs) (lists_of c.args.body.now)) (sym (reverse_pushed c.args.body.now.values.items _
    (Value.Number c.args.span.value) (c.in_ok-push.ensures.items ∙ ap (λ v. c.args.body.now.values.items ++ v ∷ []) c.turn_value.ensures))))
