use Rattle.std.proofs.Common.{◌∙◌, ◌∷◌, ◌≡◌, ap, not, rules, sym}
use Rattle.cell_value.specs.declared.values.Value.{Value}
use Rattle.core_program.specs.{Accesses.address, Accesses.with_components, Expressions.operation_result, Tree.Scalar, Tree.bind, Tree.doing}
use Rattle.core_program.specs.Cells as action
use Rattle.core_program.specs.Values.{function_of, is_true, or_fault, truth, with_sign_of}
use Rattle.eval_ops.specs.Operators.{dyadic_of}
use Rattle.evaluator.proofs.Turning.{given, turns_same}
use Rattle.evaluator.proofs.expressions.continue_expression.Goals as goal
use Rattle.evaluator.specs.Rest.{below_top, here, lists_of, resume, tasks_of, values_of, waiting}
use Rattle.evaluator.specs.declared.tasks.Task.{Task}

pub returns-in-Sign-clause-turns : goal.returns-in-Sign-clause-turns
returns-in-Sign-clause-turns c m u same =
    turns_same c.args.program.now u _ m m c.scalar.result c.scalar.new.self
    (same ∙ ap (λ t. resume c.args.program.now c.args.body.now.home
    (Task.Operand t ∷ tasks_of c.args.body.now) (values_of c.args.body.now) (lists_of c.args.body.now) (Scalar c.args.value)) c.in-Sign.is)
    (c.scalar.ensures.moves c.args.program.now (or_fault (with_sign_of c.in-Sign.minus c.args.value)) m m
    (given {X = Value} (λ v. v) (or_fault (with_sign_of c.in-Sign.minus c.args.value)) c.passed.result m
    (rw c.sign.ensures at c.passed.ensures))).turns

pub returns-in-Not-clause-turns : goal.returns-in-Not-clause-turns
returns-in-Not-clause-turns c m u same =
    c.go.ensures.turns c.args.program.now m u (same ∙ ap (λ t. resume c.args.program.now c.args.body.now.home (Task.Operand t ∷ tasks_of c.args.body.now)
    (values_of c.args.body.now) (lists_of c.args.body.now) (Scalar c.args.value)) c.in-Not.is ∙ ap (λ v. waiting c.args.program.now c.args.body.now (Scalar v))
    (let e : truth (not (is_true c.args.value)) ≡ c.truth.result = cc in e))

pub returns-in-Function-clause-turns : goal.returns-in-Function-clause-turns
returns-in-Function-clause-turns c m u same =
    let p = c.args.program.now in
    let a = c.args.body.now in
    let h = here a.home c.in-Function.line in
    let r : function_of c.in-Function.function c.in-Function.least c.in-Function.greatest c.args.value ≡ c.ordinal_function-done.result = search rules in
    turns_same p u _ m m c.scalar-in-Function.result c.scalar-in-Function.new.self
    (same ∙ ap (λ t. resume p a.home (Task.Operand t ∷ tasks_of a) (values_of a) (lists_of a) (Scalar c.args.value)) c.in-Function.is
    ∙ ap (λ r. bind (operation_result h r) (waiting p a)) r)
    (c.scalar-in-Function.ensures.moves p (or_fault c.ordinal_function-done.result) m m
    (given {X = Value} (λ v. v) (or_fault c.ordinal_function-done.result) c.passed-in-Function.result m c.passed-in-Function.ensures)).turns

pub returns-in-Component-clause-turns : goal.returns-in-Component-clause-turns
returns-in-Component-clause-turns c m u same =
    c.locate_component.ensures.turns m u (same ∙ ap (λ t. resume c.args.program.now c.args.body.now.home (Task.Operand t ∷ tasks_of c.args.body.now) (values_of
    c.args.body.now) (lists_of c.args.body.now) (Scalar c.args.value)) c.in-Component.is ∙ ap (λ k. bind (with_components c.args.program.now k (λ a. doing
    c.in-Component.line (action.component a c.in-Component.addr c.args.value) address)) (waiting c.args.program.now c.args.body.now)) (sym
    c.type_row-found.ensures))

pub returns-in-First-clause-turns : goal.returns-in-First-clause-turns
returns-in-First-clause-turns c m u same = c.hold-in-First.ensures.turns c.args.program.now m u (same ∙ rw c.in-First.is)

pub returns-in-Right-clause-turns : goal.returns-in-Right-clause-turns
returns-in-Right-clause-turns c m u same = c.hold.ensures.turns c.args.program.now m u (same ∙ rw c.in-Right.is)

pub returns-in-Both-clause-turns : goal.returns-in-Both-clause-turns
returns-in-Both-clause-turns c m u same =
    let p = c.args.program.now in
    let a = c.args.body.now in
    let n = c.in-Both in
    let h = here a.home n.line in
    let l = c.take_value-left in
    let K = resume p a.home (tasks_of a) (below_top (values_of a)) (lists_of a) in
    turns_same p u _ m m c.scalar-in-Both.result c.scalar-in-Both.new.self
    (same ∙ ap (λ t. resume p a.home (Task.Operand t ∷ tasks_of a) (values_of a) (lists_of a) (Scalar c.args.value)) n.is
    ∙ ap (λ x. bind (operation_result h (dyadic_of n.dyadic x c.args.value)) K) (sym l.ensures.result)
    ∙ ap (λ r. bind (operation_result h r) K) (sym c.apply.ensures)
    ∙ ap (bind (operation_result h c.apply.result)) (sym (l.ensures.waits p)))
    (c.scalar-in-Both.ensures.moves p (or_fault c.apply.result) m m
    (given {X = Value} (λ v. v) (or_fault c.apply.result) c.passed-in-Both.result m c.passed-in-Both.ensures)).turns

pub returns-in-Member-clause-turns : goal.returns-in-Member-clause-turns
returns-in-Member-clause-turns c m u same = c.gather_member.ensures.turns c.args.program.now m u (same ∙ rw c.in-Member.is)
