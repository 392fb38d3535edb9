use Rattle.std.proofs.Common.{◌∙◌, ◌≡◌, None, Some, ap, arith, refl}
use Rattle.cell_value.specs.declared.{values.Value.Value, ways_out.Kind.Kind}
use Rattle.core_program.specs.{ProgramRows.row_at, Tree.ActTree, Tree.bind}
use Rattle.core_program.specs.Statements as meaning
use Rattle.eval_ops.specs.Counting.{both_there, span_in, turns_in, turns_row}
use Rattle.eval_ops.specs.declared.{counting.Counting.Counting, counting.ForProgress.ForProgress, halt.Halt.Halt}
use Rattle.evaluator.proofs.{Moves.comes_same, Turning.fails_after, Turning.moves_failed, Turning.moves_on}
use Rattle.evaluator.proofs.StatementsByRow.{first_both, row_of_both, with_both, without_numbers}
use Rattle.evaluator.proofs.counting.first_turn.Goals as goal
use Rattle.evaluator.specs.Rest.{here, waiting}

pub begin_turns-requires-clause-row : goal.begin_turns-requires-clause-row
begin_turns-requires-clause-row c =
    let p = c.args.program.now in
    row_of_both (row_at p c.args.turns) (span_in c.args.first c.args.last) c.in-Some.counting c.in-Some.span
    (let e : both_there (turns_in (row_at p c.args.turns)) (span_in c.args.first c.args.last) ≡ Some (c.in-Some.counting, c.in-Some.span) = cc in e)

pub returns-in-Some-clause-moves : goal.returns-in-Some-clause-moves
returns-in-Some-clause-moves c =
    let p = c.args.program.now in
    let h = here c.args.body.now.home c.args.line in
    let rest = waiting p c.args.body.now in
    moves_on c.begin_turns.ensures.moves (ap (λ t. bind t rest) (first_both p h c.args.turns (row_at p c.args.turns) c.args.first c.args.last ∙ ap (λ o.
    with_both (without_numbers h (turns_in (row_at p c.args.turns))) o (λ k s. meaning.first_turn p h c.args.turns (turns_row k) (Value.Number s.value)
    (Value.Number s.last))) (let e : both_there (turns_in (row_at p c.args.turns)) (span_in c.args.first c.args.last) ≡ Some (
      c.in-Some.counting,
      c.in-Some.span,
    ) = cc in e))) (omega arith)

pub returns-in-Some-turns_of-clause-moves : goal.returns-in-Some-turns_of-clause-moves
returns-in-Some-turns_of-clause-moves c =
    let p = c.args.program.now in
    let h = here c.args.body.now.home c.args.line in
    let rest = waiting p c.args.body.now in
    let go : Counting → ForProgress → ActTree = λ k s. meaning.first_turn p h c.args.turns (turns_row k) (Value.Number s.value) (Value.Number s.last) in
    let e : both_there (turns_in (row_at p c.args.turns)) (span_in c.args.first c.args.last) ≡ None = cc in
    let k : turns_in (row_at p c.args.turns) ≡ Some c.in-Some-turns_of.field-0 = cc in
    moves_failed {e = Halt.Fault Kind.Undefined} c.fail.ensures.fails c.fail.ensures.line c.fail.ensures.home (fails_after p _ _ _ _ _ c.args.line
    (Halt.Fault Kind.Undefined) (comes_same (ap (λ t. bind t rest)
    (first_both p h c.args.turns (row_at p c.args.turns) c.args.first c.args.last
    ∙ ap (λ o. with_both (without_numbers h (turns_in (row_at p c.args.turns))) o go) e ∙ ap (without_numbers h) k))) (record { moves = 1; is = refl }))
