use Rattle.std.proofs.Common.{◌∙◌, ◌≡◌, ap, rules, sym}
use Rattle.cell_value.specs.declared.values.Value.{Value}
use Rattle.core_program.specs.{Accesses.scalar, Tree.bind}
use Rattle.evaluator.proofs.expressions.other_expression.Goals as goal
use Rattle.evaluator.specs.{ExpressionFamilies.of_other, Rest.here, Rest.waiting}

pub returns-in-Constant-clause-turns : goal.returns-in-Constant-clause-turns
returns-in-Constant-clause-turns c m u same =
    c.go.ensures.turns c.args.program.now m u (same ∙ ap (λ e. bind (of_other c.args.program.now (here c.args.body.now.home c.args.line) e) (waiting
    c.args.program.now c.args.body.now)) c.in-Constant.is ∙ ap (λ v. bind (scalar v) (waiting c.args.program.now c.args.body.now)) (let e : Value.Number
    c.in-Constant.value ≡ c.constant.result = search rules in e))

pub returns-in-CompareTexts-clause-turns : goal.returns-in-CompareTexts-clause-turns
returns-in-CompareTexts-clause-turns c m u same = c.wait.ensures.turns c.args.program.now m u (same ∙ rw c.in-CompareTexts.is)

pub returns-in-Text-clause-turns : goal.returns-in-Text-clause-turns
returns-in-Text-clause-turns c m u same = c.give_string.ensures.turns c.args.program.now m u (same ∙ rw c.in-Text.is)

pub returns-in-Set-clause-turns : goal.returns-in-Set-clause-turns
returns-in-Set-clause-turns c m u same = c.gather_from.ensures.turns c.args.program.now m u (same ∙ rw (c.in-Set.is, sym c.no_members.ensures))

pub returns-in-Sign-clause-turns : goal.returns-in-Sign-clause-turns
returns-in-Sign-clause-turns c m u same = c.monadic.ensures.turns c.args.program.now m u (same ∙ rw c.in-Sign.is)

pub returns-in-Not-clause-turns : goal.returns-in-Not-clause-turns
returns-in-Not-clause-turns c m u same = c.monadic-in-Not.ensures.turns c.args.program.now m u (same ∙ rw c.in-Not.is)

pub returns-in-Function-clause-turns : goal.returns-in-Function-clause-turns
returns-in-Function-clause-turns c m u same = c.monadic-in-Function.ensures.turns c.args.program.now m u (same ∙ rw c.in-Function.is)

pub returns-in-Apply-clause-turns : goal.returns-in-Apply-clause-turns
returns-in-Apply-clause-turns c m u same = c.designator.ensures.turns c.args.program.now m u (same ∙ rw c.in-Apply.is)

pub returns-in-ApplyFormal-clause-turns : goal.returns-in-ApplyFormal-clause-turns
returns-in-ApplyFormal-clause-turns c m u same = c.designator-in-ApplyFormal.ensures.turns c.args.program.now m u (same ∙ rw c.in-ApplyFormal.is)

pub returns-in-Nil-clause-turns : goal.returns-in-Nil-clause-turns
returns-in-Nil-clause-turns c m u same = c.go-in-Nil.ensures.turns c.args.program.now m u (same ∙ rw c.in-Nil.is)
