use Rattle.std.proofs.Common.{◌∙◌, ◌≡◌, Some, ap, arith}
use Rattle.core_program.specs.{Accesses.no_row, ProgramRows.row_at, Tree.bind}
use Rattle.eval_ops.specs.Counting.{both_there, span_in, turns_in, turns_row}
use Rattle.evaluator.proofs.{StatementsByRow.counted_both, StatementsByRow.row_of_both, StatementsByRow.with_both, Turning.moves_on}
use Rattle.evaluator.proofs.counting.turn_ended.Goals as goal
use Rattle.evaluator.specs.Rest.{after_turn, waiting}

pub returns-in-Some-clause-moves : goal.returns-in-Some-clause-moves
returns-in-Some-clause-moves c =
    let p = c.args.program.now in
    let rest = waiting p c.args.body.now in
    moves_on (c.next_turn.ensures.moves p (row_of_both (row_at p c.args.row) (span_in c.args.value c.args.last) c.in-Some.counting c.in-Some.span (let e :
    both_there (turns_in (row_at p c.args.row)) (span_in c.args.value c.args.last) ≡ Some (c.in-Some.counting, c.in-Some.span) = cc in e))) (ap (λ t. bind t
    rest) (counted_both c.args.body.now.home c.args.row c.args.line (row_at p c.args.row) c.args.value c.args.last ∙ ap (λ o. with_both no_row o (λ k s.
    after_turn c.args.body.now.home c.args.row c.args.line s.value s.last (turns_row k))) (let e : both_there (turns_in (row_at p c.args.row)) (span_in
    c.args.value c.args.last) ≡ Some (c.in-Some.counting, c.in-Some.span) = cc in e))) (omega arith)
