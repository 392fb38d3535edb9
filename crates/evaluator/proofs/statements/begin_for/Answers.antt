use Rattle.std.proofs.Common.{◌∙◌, ◌≡◌, Some, ap}
use Rattle.core_program.specs.{Accesses.eval, ProgramRows.row_at, Tree.bind}
use Rattle.core_program.specs.Statements as meaning
use Rattle.eval_ops.specs.Counting.{turns_in}
use Rattle.evaluator.proofs.StatementsByRow.{bounds_by, with_turns}
use Rattle.evaluator.proofs.statements.begin_for.Goals as goal
use Rattle.evaluator.specs.Rest.{here, waiting}

pub returns-in-Some-clause-turns : goal.returns-in-Some-clause-turns
returns-in-Some-clause-turns c m u same =
    let p = c.args.program.now in
    let h = here c.args.body.now.home c.args.line in
    let rest = waiting p c.args.body.now in
    c.by_value.ensures.turns p m u (same ∙ ap (λ t. bind t rest) (bounds_by p h c.args.initial c.args.turns (row_at p c.args.turns) ∙ ap (λ o. with_turns o (λ
    k. eval c.args.initial h (λ v. eval k.last h (λ w. meaning.first_turn p h c.args.turns (row_at p c.args.turns) v w)))) (let e : turns_in (row_at p
    c.args.turns) ≡ Some c.in-Some.counting = cc in e)))
