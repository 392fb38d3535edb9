use Rattle.std.proofs.Common.{if◌then◌else◌, ◌&&◌, ◌==◌, ◌∙◌, ◌≡◌, None, Some, ap, arith, false, length, reverse, sum_by, sym, true}
use Rattle.std.proofs.lemmas.Bool.Decides.{nat_tests}
use Rattle.core_program.specs.Statements.{jumped, labelled_in}
use Rattle.core_program.specs.Tree.{Exec, Jump, Ret, Sub, bind}
use Rattle.evaluator.proofs.{AfterStatements.each_weighs, AfterStatements.other_lands, Moves.bind_if, StepsFall.falls_so}
use Rattle.evaluator.proofs.jumps.land.Goals as goal
use Rattle.evaluator.specs.Rest.{from, from_under, here, left_now, lists_below, lists_of, resume, tasks_of, values_below, values_of, waiting}
use Rattle.evaluator.specs.Weight.{task_weight}
use Rattle.evaluator.specs.declared.tasks.{Now.TheVariants.Begin, Now.TheVariants.Came, Part.Part, Task.Task, Way.Way}

pub returns-in-Some-Some-clause-turns : goal.returns-in-Some-Some-clause-turns
returns-in-Some-Some-clause-turns c m u same =
    let p = c.args.program.now in
    let a = c.args.body.now in
    let i = c.in-Sequence in
    let own : (c.args.base == a.home.base) ≡ true = grind (arith, nat_tests, c.if-base-body.true) in
    let found : labelled_in p (length p.rows) i.first c.args.label ≡ Some (Some c.in-Some-Some.at) = cc in
    c.go.ensures.turns p m u (same ∙ ap (λ t. from_under p a (Came (Way.Jump c.args.label c.args.base)) (Task.Next t)) i.is ∙ ap (λ b. bind (jumped (here a.home
    i.line) i.first c.args.label c.args.base (if b then labelled_in p (length p.rows) i.first c.args.label else Some None)) (waiting p a)) own ∙ ap (λ o. bind
    (jumped (here a.home i.line) i.first c.args.label c.args.base o) (waiting p a)) found)

pub returns-in-Some-None-clause-turns : goal.returns-in-Some-None-clause-turns
returns-in-Some-None-clause-turns c m u same =
    let p = c.args.program.now in
    let a = c.args.body.now in
    let i = c.in-Sequence in
    let own : (c.args.base == a.home.base) ≡ true = grind (arith, nat_tests, c.if-base-body.true) in
    let found : labelled_in p (length p.rows) i.first c.args.label ≡ Some None = cc in
    c.go-in-Some-None.ensures.turns p m u (same ∙ ap (λ t. from_under p a (Came (Way.Jump c.args.label c.args.base)) (Task.Next t)) i.is ∙ ap (λ b. bind (jumped
    (here a.home i.line) i.first c.args.label c.args.base (if b then labelled_in p (length p.rows) i.first c.args.label else Some None)) (waiting p a)) own ∙ ap
    (λ o. bind (jumped (here a.home i.line) i.first c.args.label c.args.base o) (waiting p a)) found)

pub returns-else-base-body-clause-turns : goal.returns-else-base-body-clause-turns
returns-else-base-body-clause-turns c m u same =
    let p = c.args.program.now in
    let a = c.args.body.now in
    let i = c.in-Sequence in
    let other : (c.args.base == a.home.base) ≡ false = grind (arith, nat_tests, c.if-base-body.false) in
    c.go-else-base-body.ensures.turns p m u (same ∙ ap (λ t. from_under p a (Came (Way.Jump c.args.label c.args.base)) (Task.Next t)) i.is ∙ ap (λ b. bind
    (jumped (here a.home i.line) i.first c.args.label c.args.base (if b then labelled_in p (length p.rows) i.first c.args.label else Some None)) (waiting p a))
    other)

pub returns-in-Labelled-clause-turns : goal.returns-in-Labelled-clause-turns
returns-in-Labelled-clause-turns c m u same =
    let p = c.args.program.now in
    let a = c.args.body.now in
    let i = c.in-Labelled in
    c.either.ensures.turns p m u (same ∙ ap (λ t. from_under p a (Came (Way.Jump c.args.label c.args.base)) (Task.Next t)) i.is ∙ bind_if ((c.args.label ==
    i.own) && (c.args.base == a.home.base)) (Sub (Exec i.row (here a.home i.line)) Ret) (Ret (Jump c.args.label c.args.base)) (waiting p a) ∙ ap (λ b. if b then
    from p a (Begin (Part.Exec i.row i.line)) else from p a (Came (Way.Jump c.args.label c.args.base))) (sym c.is_to-found.ensures))

pub returns-in_default : goal.returns-in_default
returns-in_default c =
    let p = c.args.program.now in
    let a = c.args.body.now in
    let t = Task.Next c.args.next in
    let g = c.drop_task.ensures in
    record {
      turns = λ m u same. c.go-in_default.ensures.turns p m u (same
          ∙ ap (λ x. bind x (resume p a.home (tasks_of a) (values_below t (values_of a)) (lists_below t (lists_of a))))
          (other_lands p a.home c.args.next (values_of a) c.args.label c.args.base c.in_default.not-Sequence c.in_default.not-Labelled)
          ∙ sym (λ i. left_now p (g.home i) (Came (Way.Jump c.args.label c.args.base)) (reverse (g.tasks i)) (g.values i) (g.lists i)));
      falls = let k = ap (sum_by task_weight) g.tasks in let e = each_weighs t in
          falls_so c.go-in_default.result _ _ _ _ (λ h. omega (arith, h, k, e)) c.go-in_default.ensures.falls;
      home = c.go-in_default.ensures.home ∙ g.home;
    }
