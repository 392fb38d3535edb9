use Rattle.std.proofs.Common.{◌∙◌, ◌≡◌, ap, sym}
use Rattle.core_program.specs.{Expressions.gather, Tree.bind, Values.members_added}
use Rattle.evaluator.proofs.sets.gather_member.Goals as goal
use Rattle.evaluator.specs.Rest.{below_top, here, lists_of, resume, tasks_of, values_of, waiting}

pub returns-clause-turns : goal.returns-clause-turns
returns-clause-turns c p m u same =
    let a = c.args.body.now in
    let next = c.args.next in
    let h = here a.home c.args.line in
    let l = c.take_value-set in
    let K = resume p a.home (tasks_of a) (below_top (values_of a)) (lists_of a) in
    let r : members_added c.take_value-set.result c.args.value c.args.value ≡ c.add_members.result = cc in
    c.gathered.ensures.turns p m u (same ∙ ap (λ x. bind (gather h next (members_added x c.args.value c.args.value)) K) (sym l.ensures.result) ∙ ap (λ r. bind
    (gather h next r) K) r ∙ ap (bind (gather h next c.add_members.result)) (sym (l.ensures.waits p)) ∙ ap (λ o. bind (gather (here o c.args.line) next
    c.add_members.result) (waiting p l.new.self)) (sym l.ensures.home))
