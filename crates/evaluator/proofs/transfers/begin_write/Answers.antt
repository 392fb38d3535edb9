use Rattle.std.proofs.Common.{if◌then◌else◌, ◌∙◌, ap}
use Rattle.core_program.specs.{Output.end_line, Statements.finally, Statements.nothing, Statements.on_normal, Tree.Print, Tree.Sub, Tree.bind}
use Rattle.evaluator.proofs.transfers.begin_write.Goals as goal
use Rattle.evaluator.specs.Rest.{here, waiting}

pub returns-then-ends_line-clause-turns : goal.returns-then-ends_line-clause-turns
returns-then-ends_line-clause-turns c p m u same =
    let a = c.args.body.now in
    let h = here a.home c.args.line in
    let K = waiting p a in
    let e = c.if-ends_line.true in
    c.wait.ensures.turns p m u (same ∙ ap (λ b. bind (Sub (Print c.args.actuals h) (on_normal (if b then finally h end_line else nothing))) K) e)

pub returns-else-ends_line-clause-turns : goal.returns-else-ends_line-clause-turns
returns-else-ends_line-clause-turns c p m u same =
    let a = c.args.body.now in
    let h = here a.home c.args.line in
    let K = waiting p a in
    let e = c.if-ends_line.false in
    c.wait-else-ends_line.ensures.turns p m u (same ∙ ap (λ b. bind (Sub (Print c.args.actuals h) (on_normal (if b then finally h end_line else nothing))) K) e)
