use Rattle.std.proofs.Common.{◌∙◌, ◌∷◌, ap, arith, reverse, sum_by, sym}
use Rattle.core_program.specs.Tree.{bind}
use Rattle.eval_ops.specs.Machines.{moment_of}
use Rattle.evaluator.proofs.{AfterStatements.statement_ended, Turning.moves_by, Turning.moves_from, Turning.moves_on}
use Rattle.evaluator.proofs.turns.after_cells.Goals as goal
use Rattle.evaluator.specs.{Weight.task_weight, declared.tasks.Now.TheVariants.Came, declared.tasks.Task.Task, declared.tasks.Way.Way}
use Rattle.evaluator.specs.Rest.{below_list, from_under, left_now, lists_below, lists_of, resume, tasks_of, top_list, values_below, values_of}

pub returns-in-Actual-clause-moves : goal.returns-in-Actual-clause-moves
returns-in-Actual-clause-moves c =
    moves_by c.add_actual_cells.ensures.turns c.add_actual_cells.ensures.falls c.add_actual_cells.ensures.home (ap (from_under c.args.program.now
    c.args.body.now (Came Way.Cells)) c.in-Actual.is) (omega (arith, ap task_weight c.in-Actual.is))

pub returns-in-Target-clause-moves : goal.returns-in-Target-clause-moves
returns-in-Target-clause-moves c =
    moves_by c.locate_target_cells.ensures.turns c.locate_target_cells.ensures.falls c.locate_target_cells.ensures.home (ap (from_under c.args.program.now
    c.args.body.now (Came Way.Cells)) c.in-Target.is) (omega (arith, ap task_weight c.in-Target.is))

pub returns-in-Next-clause-moves : goal.returns-in-Next-clause-moves
returns-in-Next-clause-moves c =
    let p = c.args.program.now in
    let a = c.args.body.now in
    let t = Task.Next c.in-Next.next in
    let b = c.drop_list.ensures in
    moves_from c.follow_statement.ensures.moves (ap (from_under p a (Came Way.Cells)) c.in-Next.is
    ∙ ap (λ x. bind x (resume p a.home (tasks_of a) (values_below t
    (values_of a)) (lists_below t (below_list (lists_of a))))) ((statement_ended p a.home c.in-Next.next (values_of a)).cells (top_list (lists_of a))) ∙ sym (λ
    i. left_now p (b.home i) (Came Way.Nothing) (t ∷ reverse (b.tasks i)) (reverse (b.values i)) (b.lists i)))
    (omega (arith, ap task_weight c.in-Next.is, ap (sum_by task_weight) c.drop_list.ensures.tasks)) c.drop_list.ensures.home

pub returns-in-TextRight-clause-moves : goal.returns-in-TextRight-clause-moves
returns-in-TextRight-clause-moves c =
    moves_by (c.begin_right_text.ensures.turns c.args.program.now) c.begin_right_text.ensures.falls c.begin_right_text.ensures.home (ap (from_under
    c.args.program.now c.args.body.now (Came Way.Cells)) c.in-TextRight.is) (omega (arith, ap task_weight c.in-TextRight.is))

pub returns-in-Texts-clause-moves : goal.returns-in-Texts-clause-moves
returns-in-Texts-clause-moves c =
    moves_by (c.end_texts.ensures.turns c.args.program.now) c.end_texts.ensures.falls c.end_texts.ensures.home (ap (from_under c.args.program.now
    c.args.body.now (Came Way.Cells)) c.in-Texts.is) (omega (arith, ap task_weight c.in-Texts.is))

pub returns-in-Transfer-clause-moves : goal.returns-in-Transfer-clause-moves
returns-in-Transfer-clause-moves c =
    moves_on (c.continue_with_text.ensures.moves c.args.program.now) (ap (from_under c.args.program.now c.args.body.now (Came Way.Cells)) c.in-Transfer.is)
    (omega (arith, ap task_weight c.in-Transfer.is))

pub returns-in-TextValue-clause-moves : goal.returns-in-TextValue-clause-moves
returns-in-TextValue-clause-moves c =
    moves_on (c.add_text.ensures.moves (moment_of c.args.machine.now)) (ap (from_under c.args.program.now c.args.body.now (Came Way.Cells)) c.in-TextValue.is)
    (omega (arith, ap task_weight c.in-TextValue.is))
