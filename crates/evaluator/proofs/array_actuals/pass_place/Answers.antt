use Rattle.std.proofs.Common.{◌∙◌, ◌≡◌, ap, false, sym}
use Rattle.core_program.specs.{Accesses.is_conformant, Conformant.dimensions_of, ProgramRows.row_at, Tree.Locate, Tree.Sub, Tree.bind, declared.rows.Row.Row}
use Rattle.eval_ops.specs.Conformant.{dimensions}
use Rattle.evaluator.proofs.ConformantTrees.{dimensions_known, place_located}
use Rattle.evaluator.proofs.array_actuals.pass_place.Goals as goal
use Rattle.evaluator.specs.Rest.{here, lists_of, place_found, top_passed, under_passed}

pub returns-in-Access-clause-turns : goal.returns-in-Access-clause-turns
returns-in-Access-clause-turns c m u same =
    let p = c.args.program.now in
    let a = c.args.body.now in
    let q = top_passed (lists_of a) in
    let e : row_at p c.args.access ≡ Row.Access c.in-Access.row = cc in
    c.wait.ensures.turns p m u (same ∙ ap (λ t. bind t (under_passed p a))
    (place_located p a.home c.args.line c.args.first c.args.of c.args.next q (dimensions c.in_ok-dimensions_meant.field-0)
    (dimensions_known (dimensions_of p c.args.of) _ c.in_ok-dimensions_meant.ensures.meant) c.args.access c.in-Access.row e
    ∙ ap (λ t. Sub (Locate c.args.access false (here a.home c.args.line)) (place_found p a.home c.args.first c.args.of t c.args.next c.args.line q
    (is_conformant p t))) (sym c.type_accessed.ensures)))
