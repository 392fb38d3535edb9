use Rattle.std.proofs.Common.{◌∙◌, ◌≡◌, None, Some, ap}
use Rattle.core_program.specs.Tree.{bind}
use Rattle.eval_ops.specs.Operators.{dyadic_in}
use Rattle.evaluator.proofs.ExpressionsByRow.{by_dyadic, expression_by}
use Rattle.evaluator.proofs.expressions.begin_expression.Goals as goal
use Rattle.evaluator.specs.Rest.{here, waiting}

pub returns-in-Some-clause-turns : goal.returns-in-Some-clause-turns
returns-in-Some-clause-turns c m u same =
    let p = c.args.program.now in
    let a = c.args.body.now in
    let h = here a.home c.args.line in
    c.wait.ensures.turns p m u (same ∙ ap (λ t. bind t (waiting p a)) (expression_by p h c.args.expression ∙ ap (by_dyadic p h c.args.expression) (let e :
    dyadic_in c.args.expression ≡ Some (c.in-Some.dyadic, c.in-Some.left, c.in-Some.right) = cc in e)))

pub returns-in-None-clause-turns : goal.returns-in-None-clause-turns
returns-in-None-clause-turns c m u same =
    let p = c.args.program.now in
    let a = c.args.body.now in
    let h = here a.home c.args.line in
    c.other_expression.ensures.turns m u (same ∙ ap (λ t. bind t (waiting p a)) (expression_by p h c.args.expression ∙ ap (by_dyadic p h c.args.expression) (let
    e : dyadic_in c.args.expression ≡ None = cc in e)))
