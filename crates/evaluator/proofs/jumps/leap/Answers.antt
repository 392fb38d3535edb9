use Rattle.std.proofs.Common.{◌∙◌, ap, arith, reverse, subst, sum_by, sym}
use Rattle.core_program.specs.Tree.{bind}
use Rattle.evaluator.proofs.{AfterStatements.each_weighs, AfterStatements.other_leaps, AfterStatements.same_below, StepsFall.falls_so}
use Rattle.evaluator.proofs.jumps.leap.Goals as goal
use Rattle.evaluator.specs.{Records.SameFrame, Weight.task_weight, declared.tasks.Now.TheVariants.Came, declared.tasks.Way.Way}
use Rattle.evaluator.specs.Rest.{from_under, home_below, left_now, lists_below, lists_of, resume, tasks_of, values_below, values_of}

pub returns-in-Next-clause-turns : goal.returns-in-Next-clause-turns
returns-in-Next-clause-turns c m u same =
    let p = c.args.program.now in
    c.land.ensures.turns m u (same ∙ ap (from_under p c.args.body.now (Came (Way.Jump c.args.label c.args.base))) c.in-Next.is)

pub returns-in_default : goal.returns-in_default
returns-in_default c =
    let p = c.args.program.now in
    let a = c.args.body.now in
    let t = c.args.task in
    let g = c.drop_task.ensures in
    record {
      turns = λ m u same. c.go.ensures.turns p m u (same ∙ ap (λ x. bind x
          (resume p (home_below t a.home) (tasks_of a) (values_below t (values_of a)) (lists_below t (lists_of a))))
          (other_leaps p a.home t (values_of a) (lists_of a) c.args.label c.args.base c.in_default.not-Next)
          ∙ sym (λ i. left_now p (g.home i) (Came (Way.Jump c.args.label c.args.base)) (reverse (g.tasks i)) (g.values i) (g.lists i)));
      falls = let k = ap (sum_by task_weight) g.tasks in let e = each_weighs t in
          falls_so c.go.result _ _ _ _ (λ h. omega (arith, h, k, e)) c.go.ensures.falls;
      frame = subst (λ h. SameFrame h a.home) (sym (c.go.ensures.home ∙ g.home)) (same_below t a.home);
    }
