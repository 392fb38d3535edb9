use Rattle.std.proofs.Common.{◌∙◌, ap, arith, refl, sum_by, sym}
use Rattle.core_program.specs.{Output.string_text, Output.written, Transfers.print, Tree.Print, Tree.Ret, Tree.Sub, Tree.bind}
use Rattle.eval_ops.specs.Machines.{moment_of}
use Rattle.evaluator.proofs.Turning.{moves_from}
use Rattle.evaluator.proofs.writing.write_text.Goals as goal
use Rattle.evaluator.specs.{Rest.here, Rest.lists_of, Rest.top_list, Rest.waiting, Weight.task_weight}

pub returns-clause-moves : goal.returns-clause-moves
returns-clause-moves c p =
    let a = c.args.body.now in
    let l = c.take_list-list in
    let h = here a.home c.args.line in
    let text = string_text (top_list (lists_of a)) in
    let e = ap (sum_by task_weight) c.take_list-list.ensures.tasks in
    moves_from (c.go_after.ensures.moves p (written text c.args.width) (Sub (Print c.args.next (here l.new.self.home c.args.line)) Ret) (moment_of
    c.args.machine.now) (moment_of c.write_string-done.new.machine) refl (rw l.ensures.result at c.write_string-done.ensures.action)) (ap (bind (print h
    c.args.next text c.args.width)) (sym (l.ensures.waits p)) ∙ ap (λ o. bind (print (here o c.args.line) c.args.next text c.args.width) (waiting p l.new.self))
    (sym l.ensures.home)) (omega (arith, e)) c.take_list-list.ensures.home
