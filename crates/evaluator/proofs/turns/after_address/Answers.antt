use Rattle.std.proofs.Common.{◌∙◌, ap, arith}
use Rattle.core_program.specs.Tree.{bind}
use Rattle.evaluator.proofs.{AfterStatements.statement_ended, Turning.moves_by, Turning.moves_on}
use Rattle.evaluator.proofs.turns.after_address.Goals as goal
use Rattle.evaluator.specs.{Weight.task_weight, declared.tasks.Now.TheVariants.Came, declared.tasks.Task.Task, declared.tasks.Way.Way}
use Rattle.evaluator.specs.Rest.{from_under, lists_below, lists_of, resume, tasks_of, values_below, values_of}

pub returns-in-Next-clause-moves : goal.returns-in-Next-clause-moves
returns-in-Next-clause-moves c =
    let p = c.args.program.now in
    let a = c.args.body.now in
    let t = Task.Next c.in-Next.next in
    moves_on c.follow_statement.ensures.moves (ap (from_under p a (Came (Way.Address c.args.addr))) c.in-Next.is ∙ ap (λ x. bind x (resume p a.home (tasks_of a)
    (values_below t (values_of a)) (lists_below t (lists_of a)))) ((statement_ended p a.home c.in-Next.next (values_of a)).address c.args.addr))
    (omega (arith, ap task_weight c.in-Next.is))

pub returns-in-Record-clause-moves : goal.returns-in-Record-clause-moves
returns-in-Record-clause-moves c =
    let p = c.args.program.now in
    let a = c.args.body.now in
    let w = ap task_weight c.in-Record.is in
    record {
      turns = c.establish.ensures.turns p _ _ (ap (from_under p a (Came (Way.Address c.args.addr))) c.in-Record.is);
      falls = λ g. omega (arith, c.establish.ensures.falls g, w);
      frame = c.establish.ensures.frame;
    }

pub returns-in-Point-clause-moves : goal.returns-in-Point-clause-moves
returns-in-Point-clause-moves c =
    moves_on c.put_pointer.ensures.moves (ap (from_under c.args.program.now c.args.body.now (Came (Way.Address c.args.addr))) c.in-Point.is)
    (omega (arith, ap task_weight c.in-Point.is))

pub returns-in-Transfer-clause-moves : goal.returns-in-Transfer-clause-moves
returns-in-Transfer-clause-moves c =
    moves_on c.store_read.ensures.moves (ap (from_under c.args.program.now c.args.body.now (Came (Way.Address c.args.addr))) c.in-Transfer.is)
    (omega (arith, ap task_weight c.in-Transfer.is))

pub returns-in-PackFirst-clause-moves : goal.returns-in-PackFirst-clause-moves
returns-in-PackFirst-clause-moves c =
    moves_by (c.locate_second.ensures.turns c.args.program.now) c.locate_second.ensures.falls c.locate_second.ensures.home (ap (from_under c.args.program.now
    c.args.body.now (Came (Way.Address c.args.addr))) c.in-PackFirst.is) (omega (arith, ap task_weight c.in-PackFirst.is))

pub returns-in-PackSecond-clause-moves : goal.returns-in-PackSecond-clause-moves
returns-in-PackSecond-clause-moves c =
    moves_by (c.pack_by_index.ensures.turns c.args.program.now) c.pack_by_index.ensures.falls c.pack_by_index.ensures.home (ap (from_under c.args.program.now
    c.args.body.now (Came (Way.Address c.args.addr))) c.in-PackSecond.is) (omega (arith, ap task_weight c.in-PackSecond.is))
