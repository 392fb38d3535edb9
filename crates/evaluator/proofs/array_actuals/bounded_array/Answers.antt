use Rattle.std.proofs.Common.{◌∙◌, ap, arith, sym}
use Rattle.core_program.specs.Tree.{Bounded, bind}
use Rattle.eval_ops.specs.{Conformant.conformant_actual, Conformant.fixed_actual, Machines.moment_of}
use Rattle.evaluator.proofs.Turning.{moves_on}
use Rattle.evaluator.proofs.array_actuals.bounded_array.Goals as goal
use Rattle.evaluator.specs.Rest.{array_found, lists_of, top_passed, under_passed}

pub returns-then-is_conformant-clause-moves : goal.returns-then-is_conformant-clause-moves
returns-then-is_conformant-clause-moves c =
    let p = c.args.program.now in
    let a = c.args.body.now in
    moves_on (c.add_copied.ensures.moves (conformant_actual p c.args.first c.args.of c.args.actual c.args.addr c.args.frame) (moment_of c.args.machine.now)
    (moment_of c.conformant_actual-done.new.machine) c.conformant_actual-done.ensures.action)
    (ap (λ b. bind (array_found p a.home c.args.first c.args.of c.args.actual c.args.next c.args.line (top_passed (lists_of a)) b
    (Bounded c.args.addr c.args.frame)) (under_passed p a)) (sym c.is_conformant.ensures ∙ c.if-is_conformant.true)) (omega arith)

pub returns-else-is_conformant-clause-moves : goal.returns-else-is_conformant-clause-moves
returns-else-is_conformant-clause-moves c =
    let p = c.args.program.now in
    let a = c.args.body.now in
    moves_on (c.add_copied-else-is_conformant.ensures.moves (fixed_actual p c.args.first c.args.of c.args.actual c.args.addr) (moment_of c.args.machine.now)
    (moment_of c.fixed_actual-done.new.machine) c.fixed_actual-done.ensures.action)
    (ap (λ b. bind (array_found p a.home c.args.first c.args.of c.args.actual c.args.next c.args.line (top_passed (lists_of a)) b
    (Bounded c.args.addr c.args.frame)) (under_passed p a)) (sym c.is_conformant.ensures ∙ c.if-is_conformant.false)) (omega arith)
