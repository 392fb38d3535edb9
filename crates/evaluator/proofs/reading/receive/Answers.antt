use Rattle.std.proofs.Common.{◌==◌, ◌∙◌, ◌≡◌, Some, ap, arith, false, true}
use Rattle.std.proofs.lemmas.Bool.Decides.{nat_tests}
use Rattle.core_program.specs.{ProgramRows.row_at, Statements.nothing, Transfers.of_received, Tree.Receive}
use Rattle.eval_ops.specs.{Items.element_in, Machines.moment_of}
use Rattle.evaluator.proofs.TransfersByRow.{received_by, with_element}
use Rattle.evaluator.proofs.Turning.{ends_list, goes_on, moves_after, moves_after_by, part_comes}
use Rattle.evaluator.proofs.reading.receive.Goals as goal
use Rattle.evaluator.specs.Rest.{here, waiting}

pub returns-then-at-eq-LIST_END-clause-moves : goal.returns-then-at-eq-LIST_END-clause-moves
returns-then-at-eq-LIST_END-clause-moves c =
    let p = c.args.program.now in
    let h = here c.args.body.now.home c.args.line in
    let off : (c.args.at == 0) ≡ true = grind (arith, nat_tests, c.if-at-eq-LIST_END.true) in
    moves_after_by (c.go.ensures.turns p) c.go.ensures.falls c.go.ensures.home (part_comes p (Receive c.args.at h) (waiting p c.args.body.now) (moment_of
    c.args.machine.now) _ (ends_list c.args.at nothing (of_received p h (row_at p c.args.at)) off)) (omega arith)

pub returns-in-Some-clause-moves : goal.returns-in-Some-clause-moves
returns-in-Some-clause-moves c =
    let p = c.args.program.now in
    let h = here c.args.body.now.home c.args.line in
    let on : (c.args.at == 0) ≡ false = grind (arith, nat_tests, c.if-at-eq-LIST_END.false) in
    moves_after c.receive_actual.ensures.moves (part_comes p (Receive c.args.at h) (waiting p c.args.body.now) (moment_of c.args.machine.now) _ (goes_on
    c.args.at nothing (of_received p h (row_at p c.args.at)) on ∙ received_by p h (row_at p c.args.at) ∙ ap (with_element p h) (let e : element_in (row_at p
    c.args.at) ≡ Some (c.in-Some.access, c.in-Some.next) = cc in e))) (omega arith)
