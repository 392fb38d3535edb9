use Rattle.std.proofs.Common.{◌∙◌, ◌≡◌, ap, rules, sym}
use mir.Syntax.{w32}
use mir.Val.{of_z, to_z}
use Rattle.core_program.specs.{Tree.bind, declared.rows.ExpressionRow.ExpressionRow}
use Rattle.evaluator.proofs.expressions.monadic.Goals as goal
use Rattle.evaluator.specs.{ExpressionFamilies.of_monadic, Rest.here, Rest.waiting}

pub returns-in-Sign-clause-turns : goal.returns-in-Sign-clause-turns
returns-in-Sign-clause-turns c p m u same = c.wait.ensures.turns p m u (same ∙ rw c.in-Sign.is)

pub returns-in-Not-clause-turns : goal.returns-in-Not-clause-turns
returns-in-Not-clause-turns c p m u same = c.wait-in-Not.ensures.turns p m u (same ∙ rw c.in-Not.is)

pub returns-in-Function-clause-turns : goal.returns-in-Function-clause-turns
returns-in-Function-clause-turns c p m u same =
    let a = c.args.body.now in
    let l : to_z w32 (of_z w32 c.in-Function.least) ≡ c.in-Function.least = search rules in
    let g : to_z w32 (of_z w32 c.in-Function.greatest) ≡ c.in-Function.greatest = search rules in
    c.wait-in-Function.ensures.turns p m u (same ∙ ap (λ e. bind (of_monadic p (here a.home c.args.line) e) (waiting p a)) c.in-Function.is ∙ ap (λ n. bind
    (of_monadic p (here a.home c.args.line) (ExpressionRow.Function c.in-Function.function c.in-Function.operand n c.in-Function.greatest)) (waiting p a)) (sym
    l) ∙ ap (λ n. bind (of_monadic p (here a.home c.args.line) (ExpressionRow.Function c.in-Function.function c.in-Function.operand (to_z w32 (of_z w32
    c.in-Function.least)) n)) (waiting p a)) (sym g))
