use Rattle.std.proofs.Common.{◌∙◌, List, ap, arith, sym}
use Rattle.cell_value.specs.declared.values.Value.{Value}
use Rattle.core_program.specs.Tree.{Address, bind}
use Rattle.eval_ops.specs.Conformant.{fixed_bounds}
use Rattle.evaluator.proofs.Turning.{given, moves_on}
use Rattle.evaluator.proofs.array_actuals.place_at.Goals as goal
use Rattle.evaluator.specs.Rest.{lists_of, place_found, top_passed, under_passed}

pub returns-else-is_conformant : goal.returns-else-is_conformant
returns-else-is_conformant c = record {
  moves = λ m. let p = c.args.program.now in let a = c.args.body.now in
      moves_on (c.add_bounds.ensures.moves (fixed_bounds p c.args.first c.args.of c.args.actual) m m
      (given {X = List Value} (λ vs. vs) (fixed_bounds p c.args.first c.args.of c.args.actual) c.fixed_bounds-done.result m c.fixed_bounds-done.ensures))
      (ap (λ b. bind (place_found p a.home c.args.first c.args.of c.args.actual c.args.next c.args.line (top_passed (lists_of a)) b (Address c.args.addr))
      (under_passed p a)) (sym c.is_conformant.ensures ∙ c.if-is_conformant.false)) (omega arith);
}
