use Rattle.std.proofs.Common.{◌==◌, ◌∙◌, ◌≡◌, Some, ap, arith, false, refl, true}
use Rattle.std.proofs.lemmas.Bool.Decides.{nat_tests}
use Rattle.core_program.specs.{ProgramRows.row_at, Statements.nothing, Statements.of_sequence, Tree.Sequence}
use Rattle.eval_ops.specs.Items.{element_in}
use Rattle.evaluator.proofs.{Moves.comes_same, Moves.comes_then, StatementsByRow.in_sequence, StatementsByRow.sequence_by}
use Rattle.evaluator.proofs.Turning.{ends_list, goes_on, part_comes, turns_after}
use Rattle.evaluator.proofs.statements.sequence.Goals as goal
use Rattle.evaluator.specs.Rest.{here, waiting}

pub returns-then-at-eq-LIST_END-clause-turns : goal.returns-then-at-eq-LIST_END-clause-turns
returns-then-at-eq-LIST_END-clause-turns c m u same =
    let p = c.args.program.now in
    let h = here c.args.body.now.home c.args.line in
    let off : (c.args.at == 0) ≡ true = grind (arith, nat_tests, c.if-at-eq-LIST_END.true) in
    turns_after p _ _ m m m c.go.result c.go.new.self (comes_then (comes_same same) (part_comes p (Sequence c.args.first c.args.at h) (waiting p
    c.args.body.now) m _ (ends_list c.args.at nothing (of_sequence p h c.args.first (row_at p c.args.at)) off))) (c.go.ensures.turns p m _ refl)

pub returns-in-Some-clause-turns : goal.returns-in-Some-clause-turns
returns-in-Some-clause-turns c m u same =
    let p = c.args.program.now in
    let h = here c.args.body.now.home c.args.line in
    let rest = waiting p c.args.body.now in
    let on : (c.args.at == 0) ≡ false = grind (arith, nat_tests, c.if-at-eq-LIST_END.false) in
    turns_after p _ _ m m m c.wait.result c.wait.new.self (comes_then (comes_same same) (part_comes p (Sequence c.args.first c.args.at h) rest m _ (goes_on
    c.args.at nothing (of_sequence p h c.args.first (row_at p c.args.at)) on ∙ sequence_by p h c.args.first (row_at p c.args.at) ∙ ap (in_sequence p h
    c.args.first) (let e : element_in (row_at p c.args.at) ≡ Some (c.in-Some.item, c.in-Some.next) = cc in e)))) (c.wait.ensures.turns p m _ refl)
