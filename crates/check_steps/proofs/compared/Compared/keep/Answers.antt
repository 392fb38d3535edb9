use Rattle.std.proofs.Common.{◌∙◌, ap, sym}
use Rattle.check_steps.proofs.Answered.{answers_put}
use Rattle.check_steps.proofs.compared.Compared.keep.Goals as goal
use Rattle.check_steps.specs.Headings.{congruous}

pub invariant_of-self : goal.invariant_of-self
invariant_of-self c =
    answers_put c.self.inside.most c.self.inside.program c.self.inside.answers.entries c.insert.new.self.entries
    c.args.left c.args.right c.args.answer c.in-Ok.ensures.updates.0 c.self.invariant
    (c.requires ∙ ap (λ p. congruous c.args.most p c.args.left c.args.right) (sym c.self.view_is)
    ∙ ap (λ m. congruous m c.self.inside.program c.args.left c.args.right) (sym c.if-self-most.true))
