use Rattle.std.proofs.Common.{◌∙◌, ◌≡◌, ap, false, sym}
use Rattle.core_program.specs.{Accesses.is_conformant, Conformant.dimensions_of, ProgramRows.row_at, Tree.Locate, Tree.Sub, Tree.bind, declared.rows.Row.Row}
use Rattle.eval_ops.specs.Conformant.{dimensions}
use Rattle.evaluator.proofs.ConformantTrees.{array_located, dimensions_known, text_located}
use Rattle.evaluator.proofs.array_actuals.pass_array.Goals as goal
use Rattle.evaluator.specs.Rest.{array_found, here, lists_of, top_passed, under_passed}

pub returns-in-Access-clause-turns : goal.returns-in-Access-clause-turns
returns-in-Access-clause-turns c m u same =
    let p = c.args.program.now in
    let a = c.args.body.now in
    let q = top_passed (lists_of a) in
    let e : row_at p c.args.value ≡ Row.Access c.in-Access.row = cc in
    c.wait.ensures.turns p m u (same ∙ ap (λ t. bind t (under_passed p a))
    (array_located p a.home c.args.line c.args.first c.args.of c.args.next q (dimensions c.in_ok-dimensions_meant.field-0)
    (dimensions_known (dimensions_of p c.args.of) _ c.in_ok-dimensions_meant.ensures.meant) c.args.value c.in-Access.row e
    ∙ ap (λ t. Sub (Locate c.args.value false (here a.home c.args.line)) (array_found p a.home c.args.first c.args.of t c.args.next c.args.line q
    (is_conformant p t))) (sym c.type_accessed.ensures)))

pub returns-in-Expression-clause-turns : goal.returns-in-Expression-clause-turns
returns-in-Expression-clause-turns c m u same =
    let p = c.args.program.now in
    let a = c.args.body.now in
    let e : row_at p c.args.value ≡ Row.Expression c.in-Expression.field-0 = cc in
    c.wait-in-Expression.ensures.turns p m u (same ∙ ap (λ t. bind t (under_passed p a))
    (text_located p a.home c.args.line c.args.first c.args.of c.args.next (top_passed (lists_of a)) (dimensions c.in_ok-dimensions_meant.field-0)
    (dimensions_known (dimensions_of p c.args.of) _ c.in_ok-dimensions_meant.ensures.meant) c.args.value c.in-Expression.field-0 e))
