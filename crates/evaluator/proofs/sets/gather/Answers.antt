use Rattle.std.proofs.Common.{◌==◌, ◌∙◌, ◌≡◌, ap, arith, false, refl, true}
use Rattle.std.proofs.lemmas.Bool.Decides.{nat_tests}
use Rattle.core_program.specs.{Accesses.scalar, Expressions.of_members, ProgramRows.row_at, Tree.Gather, declared.rows.Row.Row}
use Rattle.evaluator.proofs.{Moves.comes_same, Moves.comes_then, Turning.ends_list, Turning.goes_on, Turning.part_comes, Turning.turns_after}
use Rattle.evaluator.proofs.sets.gather.Goals as goal
use Rattle.evaluator.specs.Rest.{below_top, here, lists_of, resume, tasks_of, top, values_of}

pub returns-then-at-eq-LIST_END-clause-turns : goal.returns-then-at-eq-LIST_END-clause-turns
returns-then-at-eq-LIST_END-clause-turns c m u same =
    let p = c.args.program.now in
    let a = c.args.body.now in
    let h = here a.home c.args.line in
    let set = top (values_of a) in
    let off : (c.args.at == 0) ≡ true = grind (arith, nat_tests, c.if-at-eq-LIST_END.true) in
    turns_after p _ _ _ _ _ c.give_set.result c.give_set.new.body (comes_then (comes_same same) (part_comes p (Gather c.args.at set h) (resume p a.home
    (tasks_of a) (below_top (values_of a)) (lists_of a)) m _ (ends_list c.args.at (scalar set) (of_members set h (row_at p c.args.at)) off)))
    (c.give_set.ensures.turns p m _ refl)

pub returns-in-Item-clause-turns : goal.returns-in-Item-clause-turns
returns-in-Item-clause-turns c m u same =
    let p = c.args.program.now in
    let a = c.args.body.now in
    let h = here a.home c.args.line in
    let set = top (values_of a) in
    let on : (c.args.at == 0) ≡ false = grind (arith, nat_tests, c.if-at-eq-LIST_END.false) in
    let e : row_at p c.args.at ≡ Row.Item c.in-Item.item = cc in
    turns_after p _ _ _ _ _ c.gather_item.result c.gather_item.new.body (comes_then (comes_same same) (part_comes p (Gather c.args.at set h) (resume p a.home
    (tasks_of a) (below_top (values_of a)) (lists_of a)) m _ (goes_on c.args.at (scalar set) (of_members set h (row_at p c.args.at)) on ∙ ap (of_members set h)
    e))) (c.gather_item.ensures.turns p m _ refl)
