use Rattle.std.proofs.Common.{◌∙◌, ◌≡◌, ap, reverse, sym}
use Rattle.cell_value.specs.declared.values.Value.{Value}
use Rattle.core_program.specs.{Expressions.operation_result, Tree.bind, Values.or_fault, Values.texts_compared}
use Rattle.evaluator.proofs.Turning.{given, turns_same}
use Rattle.evaluator.proofs.sets.end_texts.Goals as goal
use Rattle.evaluator.specs.Rest.{below_list, here, lists_of, resume, tasks_of, top_list, values_of, waiting}

pub returns-clause-turns : goal.returns-clause-turns
returns-clause-turns c p m u same =
    let a = c.args.body.now in
    let o = c.args.order in
    let h = here a.home c.args.line in
    let K = resume p a.home (tasks_of a) (values_of a) (below_list (below_list (lists_of a))) in
    let r = c.take_list-right.ensures in
    let l = c.take_list-left.ensures in
    let rest : waiting p c.take_list-left.new.self ≡ K =
    l.waits p ∙ (λ i. resume p (r.home i) (reverse (r.tasks i)) (reverse (r.values i)) (below_list (r.lists i))) in
    turns_same p u _ m m c.scalar.result c.scalar.new.self
    (same ∙ ap (λ y. bind (operation_result h (texts_compared o (top_list (below_list (lists_of a))) y)) K) (sym r.result)
    ∙ ap (λ x. bind (operation_result h (texts_compared o x c.take_list-right.result)) K) (ap top_list (sym r.lists) ∙ sym l.result)
    ∙ ap (λ v. bind (operation_result h v) K) (sym c.compare_texts.ensures)
    ∙ ap (bind (operation_result h c.compare_texts.result)) (sym rest))
    (c.scalar.ensures.moves p (or_fault c.compare_texts.result) m m
    (given {X = Value} (λ v. v) (or_fault c.compare_texts.result) c.passed.result m c.passed.ensures)).turns
