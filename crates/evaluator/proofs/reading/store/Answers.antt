use Rattle.std.proofs.Common.{◌∙◌, ap, arith, refl, sum_by, sym}
use Rattle.core_program.specs.{ProgramRows.row_at, ProgramRows.type_at, Variants.assign_to, Variants.tag_accessed}
use Rattle.core_program.specs.Tree.{Receive, Ret, Sub, bind, doing}
use Rattle.eval_ops.specs.Machines.{moment_of}
use Rattle.evaluator.proofs.Turning.{moves_from}
use Rattle.evaluator.proofs.reading.store.Goals as goal
use Rattle.evaluator.specs.{Rest.here, Rest.top, Rest.values_of, Rest.waiting, Weight.task_weight}

pub returns-clause-moves : goal.returns-clause-moves
returns-clause-moves c =
    let p = c.args.program.now in
    let a = c.args.body.now in
    let l = c.take_value-value in
    let act = assign_to p (tag_accessed p (row_at p c.args.reading.access)) (type_at p c.args.reading.of) c.args.addr (top (values_of a)) in
    let e = ap (sum_by task_weight) l.ensures.tasks in
    moves_from (c.go_after.ensures.moves p act (Sub (Receive c.args.reading.next (here l.new.self.home c.args.reading.line)) Ret)
    (moment_of c.args.machine.now) (moment_of
    c.assign_to-done.new.machine) refl (rw (c.type_row.ensures, c.tag_accessed-tag.ensures, c.row.ensures, l.ensures.result) at
    c.assign_to-done.ensures.action)) (ap (bind (doing c.args.reading.line act (λ _. Sub (Receive c.args.reading.next (here a.home c.args.reading.line)) Ret)))
    (sym (l.ensures.waits
    p)) ∙ ap (λ o. bind (doing c.args.reading.line act (λ _. Sub (Receive c.args.reading.next (here o c.args.reading.line)) Ret)) (waiting p l.new.self))
    (sym l.ensures.home)) (omega (arith, e)) c.take_value-value.ensures.home
