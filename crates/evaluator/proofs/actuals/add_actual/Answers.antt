use Rattle.std.proofs.Common.{◌∙◌, ◌∷◌, [], Err, Ok, ap, refl, sym}
use Rattle.cell_value.specs.declared.values.Value.{Value}
use Rattle.core_program.specs.{Passed.and_cells, Tree.bind, Tree.doing, Values.as_tested, Values.test_of}
use Rattle.evaluator.proofs.Moves.{comes_same, comes_then}
use Rattle.evaluator.proofs.Turning.{did, fails, fails_after, given, turns_after, turns_failed}
use Rattle.evaluator.proofs.actuals.add_actual.Goals as goal
use Rattle.evaluator.specs.Rest.{lists_of, pass, top_passed, under_passed}

pub returns-in-Ok-clause-turns : goal.returns-in-Ok-clause-turns
returns-in-Ok-clause-turns c m u same =
    let p = c.args.program.now in
    let a = c.args.body.now in
    let K = under_passed p a in
    turns_after p _ _ _ _ _ c.add_cell.result c.add_cell.new.body (comes_then (comes_same same) (comes_then (comes_same (ap (λ r. bind (doing c.args.line
    (as_tested r) (λ w. pass a.home c.args.next c.args.line (and_cells (top_passed (lists_of a)) (w ∷ [])))) K)
    (sym (c.test.ensures ∙ ap (λ t. test_of c.args.program.now t
    c.args.value) c.type_row.ensures)))) (did {X = Value} p c.args.line (as_tested c.test.result)
    (λ w. pass a.home c.args.next c.args.line (and_cells (top_passed (lists_of a)) (w ∷ []))) K (λ v. v) c.in-Ok.tested m m
    (given {X = Value} (λ v. v) (as_tested c.test.result) (Ok c.in-Ok.tested) m c.in-Ok.ensures))))
    (c.add_cell.ensures.turns m _ refl)

pub returns-in-Err-clause-turns : goal.returns-in-Err-clause-turns
returns-in-Err-clause-turns c m u same =
    let p = c.args.program.now in
    let a = c.args.body.now in
    let K = under_passed p a in
    turns_failed p _ _ _ c.args.line c.in-Err.halt c.fail.new.self c.fail.result c.fail.ensures.line c.fail.ensures.fails (fails_after p _ _ _ _ _ c.args.line
    c.in-Err.halt (comes_same same) (fails_after p _ _ _ _ _ c.args.line c.in-Err.halt (comes_same (ap (λ r. bind (doing c.args.line (as_tested r) (λ w. pass
    a.home c.args.next c.args.line (and_cells (top_passed (lists_of a)) (w ∷ [])))) K)
    (sym (c.test.ensures ∙ ap (λ t. test_of c.args.program.now t c.args.value)
    c.type_row.ensures)))) (fails {X = Value} p c.args.line (as_tested c.test.result)
    (λ w. pass a.home c.args.next c.args.line (and_cells (top_passed (lists_of a)) (w ∷ []))) K (λ v. v) c.in-Err.halt m m
    (given {X = Value} (λ v. v) (as_tested c.test.result) (Err c.in-Err.halt) m c.in-Err.ensures))))
