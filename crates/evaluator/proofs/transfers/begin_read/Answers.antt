use Rattle.std.proofs.Common.{if◌then◌else◌, ◌∙◌, ap}
use Rattle.core_program.specs.Statements.{nothing, on_normal}
use Rattle.core_program.specs.Tree.{Receive, RestOfLine, Ret, Sub, bind}
use Rattle.evaluator.proofs.transfers.begin_read.Goals as goal
use Rattle.evaluator.specs.Rest.{here, waiting}

pub returns-then-ends_line-clause-turns : goal.returns-then-ends_line-clause-turns
returns-then-ends_line-clause-turns c p m u same =
    let a = c.args.body.now in
    let h = here a.home c.args.line in
    let K = waiting p a in
    let e = c.if-ends_line.true in
    c.wait.ensures.turns p m u (same ∙ ap (λ b. bind (Sub (Receive c.args.actuals h) (on_normal (if b then Sub (RestOfLine h) Ret else nothing))) K) e)

pub returns-else-ends_line-clause-turns : goal.returns-else-ends_line-clause-turns
returns-else-ends_line-clause-turns c p m u same =
    let a = c.args.body.now in
    let h = here a.home c.args.line in
    let K = waiting p a in
    let e = c.if-ends_line.false in
    c.wait-else-ends_line.ensures.turns p m u (same ∙ ap (λ b. bind (Sub (Receive c.args.actuals h) (on_normal (if b then Sub (RestOfLine h) Ret else nothing)))
    K) e)
