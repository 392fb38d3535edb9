use Rattle.std.proofs.Common.{◌∙◌, Some, ap, arith, sum_by, sym}
use Rattle.core_program.specs.{Output.scalar_text, Transfers.print, Tree.bind}
use Rattle.evaluator.proofs.Turning.{moves_from}
use Rattle.evaluator.proofs.writing.write_waiting.Goals as goal
use Rattle.evaluator.specs.Rest.{below_top, here, lists_of, resume, tasks_of, values_of, waiting}
use Rattle.evaluator.specs.Weight.{task_weight}

pub returns-clause-moves : goal.returns-clause-moves
returns-clause-moves c p =
    let a = c.args.body.now in
    let l = c.take_value-value in
    let K = resume p a.home (tasks_of a) (below_top (values_of a)) (lists_of a) in
    moves_from (c.write.ensures.moves p) (ap (λ v. bind (print (here a.home c.args.line) c.args.next (scalar_text c.args.host v) (Some c.args.width)) K) (sym
    l.ensures.result) ∙ ap (bind (print (here a.home c.args.line) c.args.next (scalar_text c.args.host l.result) (Some c.args.width))) (sym (l.ensures.waits p))
    ∙ ap (λ o. bind (print (here o c.args.line) c.args.next (scalar_text c.args.host l.result) (Some c.args.width)) (waiting p l.new.self)) (sym
    l.ensures.home)) (omega (arith, ap (sum_by task_weight) c.take_value-value.ensures.tasks)) c.take_value-value.ensures.home
