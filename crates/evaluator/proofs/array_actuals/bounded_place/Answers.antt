use Rattle.std.proofs.Common.{◌∙◌, List, ap, arith, sym}
use Rattle.cell_value.specs.declared.values.Value.{Value}
use Rattle.core_program.specs.Tree.{Bounded, bind}
use Rattle.eval_ops.specs.{Conformant.fixed_bounds, Conformant.place_bounds, Machines.moment_of}
use Rattle.evaluator.proofs.Turning.{given, moves_on}
use Rattle.evaluator.proofs.array_actuals.bounded_place.Goals as goal
use Rattle.evaluator.specs.Rest.{lists_of, place_found, top_passed, under_passed}

pub returns-then-is_conformant-clause-moves : goal.returns-then-is_conformant-clause-moves
returns-then-is_conformant-clause-moves c =
    let p = c.args.program.now in
    let a = c.args.body.now in
    moves_on (c.add_bounds.ensures.moves (place_bounds p c.args.first c.args.of c.args.actual c.args.frame) (moment_of c.args.machine.now)
    (moment_of c.place_bounds-done.new.machine) c.place_bounds-done.ensures.action)
    (ap (λ b. bind (place_found p a.home c.args.first c.args.of c.args.actual c.args.next c.args.line (top_passed (lists_of a)) b
    (Bounded c.args.addr c.args.frame)) (under_passed p a)) (sym c.is_conformant.ensures ∙ c.if-is_conformant.true)) (omega arith)

pub returns-else-is_conformant-clause-moves : goal.returns-else-is_conformant-clause-moves
returns-else-is_conformant-clause-moves c =
    let p = c.args.program.now in
    let a = c.args.body.now in
    let m = moment_of c.args.machine.now in
    moves_on (c.add_bounds-else-is_conformant.ensures.moves (fixed_bounds p c.args.first c.args.of c.args.actual) m m
    (given {X = List Value} (λ vs. vs) (fixed_bounds p c.args.first c.args.of c.args.actual) c.fixed_bounds-done.result m c.fixed_bounds-done.ensures))
    (ap (λ b. bind (place_found p a.home c.args.first c.args.of c.args.actual c.args.next c.args.line (top_passed (lists_of a)) b
    (Bounded c.args.addr c.args.frame)) (under_passed p a)) (sym c.is_conformant.ensures ∙ c.if-is_conformant.false)) (omega arith)
