use Rattle.std.proofs.Common.{◌==◌, ◌∙◌, ◌≡◌, ap, arith, false, refl, true}
use Rattle.std.proofs.lemmas.Bool.Decides.{nat_tests}
use Rattle.core_program.specs.{ProgramRows.row_at, Statements.nothing, Transfers.of_printed, Tree.Print, declared.rows.Row.Row}
use Rattle.evaluator.proofs.{Moves.comes_same, Moves.comes_then, Turning.ends_list, Turning.goes_on, Turning.part_comes, Turning.turns_after}
use Rattle.evaluator.proofs.writing.print.Goals as goal
use Rattle.evaluator.specs.Rest.{here, waiting}

pub returns-then-at-eq-LIST_END-clause-turns : goal.returns-then-at-eq-LIST_END-clause-turns
returns-then-at-eq-LIST_END-clause-turns c m u same =
    let p = c.args.program.now in
    let h = here c.args.body.now.home c.args.line in
    let off : (c.args.at == 0) ≡ true = grind (arith, nat_tests, c.if-at-eq-LIST_END.true) in
    turns_after p _ _ _ _ _ c.go.result c.go.new.self (comes_then (comes_same same) (part_comes p (Print c.args.at h) (waiting p c.args.body.now) m _ (ends_list
    c.args.at nothing (of_printed p h (row_at p c.args.at)) off))) (c.go.ensures.turns p m _ refl)

pub returns-in-Item-clause-turns : goal.returns-in-Item-clause-turns
returns-in-Item-clause-turns c m u same =
    let p = c.args.program.now in
    let h = here c.args.body.now.home c.args.line in
    let on : (c.args.at == 0) ≡ false = grind (arith, nat_tests, c.if-at-eq-LIST_END.false) in
    let e : row_at p c.args.at ≡ Row.Item c.in-Item.item = cc in
    turns_after p _ _ _ _ _ c.print_item.result c.print_item.new.body (comes_then (comes_same same) (part_comes p (Print c.args.at h) (waiting p
    c.args.body.now) m _ (goes_on c.args.at nothing (of_printed p h (row_at p c.args.at)) on ∙ ap (of_printed p h) e))) (c.print_item.ensures.turns p m _ refl)
