use Rattle.std.proofs.Common.{ap, arith, reverse, sum_by, sym}
use Rattle.core_program.specs.Tree.{bind, doing}
use Rattle.eval_ops.specs.{Conformant.actual, Conformant.text_actual, declared.passed_arrays.ArrayActual.ArrayActual}
use Rattle.evaluator.proofs.Turning.{given, moves_from}
use Rattle.evaluator.proofs.array_actuals.add_text.Goals as goal
use Rattle.evaluator.specs.{Rest.array_passed, Rest.below_passed, Rest.resume, Rest.top_passed, Weight.task_weight}

pub returns : goal.returns
returns c = record {
  moves = λ m. let p = c.args.program.now in let k = c.take_list-cells.ensures in
      let does = text_actual p c.args.first c.args.of c.take_list-cells.result in
      let e = ap (sum_by task_weight) k.tasks in
      moves_from (c.add_copied.ensures.moves does m m (given {X = ArrayActual} actual does c.text_actual-done.result m c.text_actual-done.ensures))
      (sym (λ i. bind (doing c.args.line (text_actual p c.args.first c.args.of (k.result i)) (array_passed (k.home i) c.args.next c.args.line
      (top_passed (k.lists i)))) (resume p (k.home i) (reverse (k.tasks i)) (reverse (k.values i)) (below_passed (k.lists i))))) (omega (arith, e)) k.home;
}
