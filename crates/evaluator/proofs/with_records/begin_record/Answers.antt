use Rattle.std.proofs.Common.{◌==◌, ◌∙◌, ◌≡◌, Some, ap, arith, false, refl, true}
use Rattle.std.proofs.lemmas.Bool.Decides.{nat_tests}
use Rattle.core_program.specs.{ProgramRows.row_at, Statements.of_records, Tree.Establish, Tree.Exec, Tree.Ret, Tree.Sub}
use Rattle.eval_ops.specs.Items.{element_in}
use Rattle.evaluator.proofs.{Moves.comes_same, Moves.comes_then, StatementsByRow.from_record, StatementsByRow.records_by}
use Rattle.evaluator.proofs.Turning.{ends_list, goes_on, part_comes, turns_after}
use Rattle.evaluator.proofs.with_records.begin_record.Goals as goal
use Rattle.evaluator.specs.Rest.{here, waiting}

pub returns-then-at-eq-LIST_END-clause-turns : goal.returns-then-at-eq-LIST_END-clause-turns
returns-then-at-eq-LIST_END-clause-turns c m u same =
    let p = c.args.program.now in
    let h = here c.args.body.now.home c.args.line in
    let off : (c.args.at == 0) ≡ true = grind (arith, nat_tests, c.if-at-eq-LIST_END.true) in
    turns_after p _ _ m m m c.go.result c.go.new.self (comes_then (comes_same same) (part_comes p (Establish c.args.at c.args.inner h) (waiting p
    c.args.body.now) m _ (ends_list c.args.at (Sub (Exec c.args.inner h) Ret) (of_records h c.args.inner (row_at p c.args.at)) off))) (c.go.ensures.turns p m _
    refl)

pub returns-in-Some-clause-turns : goal.returns-in-Some-clause-turns
returns-in-Some-clause-turns c m u same =
    let p = c.args.program.now in
    let h = here c.args.body.now.home c.args.line in
    let on : (c.args.at == 0) ≡ false = grind (arith, nat_tests, c.if-at-eq-LIST_END.false) in
    turns_after p _ _ m m m c.wait.result c.wait.new.self (comes_then (comes_same same) (part_comes p (Establish c.args.at c.args.inner h) (waiting p
    c.args.body.now) m _ (goes_on c.args.at (Sub (Exec c.args.inner h) Ret) (of_records h c.args.inner (row_at p c.args.at)) on ∙ records_by h c.args.inner
    (row_at p c.args.at) ∙ ap (from_record h c.args.inner) (let e : element_in (row_at p c.args.at) ≡ Some (c.in-Some.access, c.in-Some.next) = cc in e))))
    (c.wait.ensures.turns p m _ refl)
