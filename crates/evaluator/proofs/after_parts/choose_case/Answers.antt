use Rattle.std.proofs.Common.{◌∙◌, ap, refl}
use Rattle.cell_value.specs.declared.ways_out.Kind.{Kind}
use Rattle.core_program.specs.Tree.{bind}
use Rattle.eval_ops.specs.{Choices.case_tree, declared.halt.Halt.Halt}
use Rattle.evaluator.proofs.Turning.{turns_failed, turns_same}
use Rattle.evaluator.proofs.after_parts.choose_case.Goals as goal
use Rattle.evaluator.specs.Rest.{here, waiting}

pub returns-in-Statement-clause-turns : goal.returns-in-Statement-clause-turns
returns-in-Statement-clause-turns c m u same =
    let p = c.args.program.now in
    let h = here c.args.body.now.home c.args.line in
    let rest = waiting p c.args.body.now in
    c.go.ensures.turns p m u (same ∙ ap (λ t. bind t rest) (c.case_of.ensures h ∙ ap (case_tree h) c.in-Statement.is))

pub returns-in-NoCase-clause-turns : goal.returns-in-NoCase-clause-turns
returns-in-NoCase-clause-turns c m u same =
    let p = c.args.program.now in
    let h = here c.args.body.now.home c.args.line in
    let rest = waiting p c.args.body.now in
    turns_same p u _ m m c.fail.result c.fail.new.self
    (same ∙ ap (λ t. bind t rest) (c.case_of.ensures h ∙ ap (case_tree h) c.in-NoCase.is))
    (turns_failed p _ m m c.args.line (Halt.Fault Kind.NoCase) c.fail.new.self c.fail.result c.fail.ensures.line c.fail.ensures.fails
    (record { moves = 1; is = refl }))

pub returns-in-NoNumber-clause-turns : goal.returns-in-NoNumber-clause-turns
returns-in-NoNumber-clause-turns c m u same =
    let p = c.args.program.now in
    let h = here c.args.body.now.home c.args.line in
    let rest = waiting p c.args.body.now in
    turns_same p u _ m m c.fail-in-NoNumber.result c.fail-in-NoNumber.new.self
    (same ∙ ap (λ t. bind t rest) (c.case_of.ensures h ∙ ap (case_tree h) c.in-NoNumber.is))
    (turns_failed p _ m m c.args.line (Halt.Fault Kind.Undefined) c.fail-in-NoNumber.new.self c.fail-in-NoNumber.result c.fail-in-NoNumber.ensures.line
    c.fail-in-NoNumber.ensures.fails (record { moves = 1; is = refl }))
