use Rattle.std.proofs.Common.{◌∙◌, ◌≡◌, ap, reverse, sym}
use Rattle.core_program.specs.{Expressions.gather, Tree.bind, Values.members_added}
use Rattle.evaluator.proofs.sets.gather_range.Goals as goal
use Rattle.evaluator.specs.Rest.{below_top, here, lists_of, resume, tasks_of, top, values_of, waiting}

pub returns-clause-turns : goal.returns-clause-turns
returns-clause-turns c p m u same =
    let a = c.args.body.now in
    let n = c.args.next in
    let v = c.args.value in
    let h = here a.home c.args.line in
    let K = resume p a.home (tasks_of a) (below_top (below_top (values_of a))) (lists_of a) in
    let f = c.take_value-first.ensures in
    let s = c.take_value-set.ensures in
    let rest : waiting p c.take_value-set.new.self ≡ K = s.waits p ∙ (λ i. resume p (f.home i) (reverse (f.tasks i)) (below_top (f.values i)) (f.lists i)) in
    c.gathered.ensures.turns p m u (same ∙ ap (λ x. bind (gather h n (members_added (top (below_top (values_of a))) x v)) K) (sym f.result) ∙ ap (λ x. bind
    (gather h n (members_added x c.take_value-first.result v)) K) (ap top (sym f.values) ∙ sym s.result) ∙ ap (λ r. bind (gather h n r) K) (sym
    c.add_members.ensures) ∙ sym (λ i. bind (gather (here ((s.home ∙ f.home) i) c.args.line) n c.add_members.result) (rest i)))
