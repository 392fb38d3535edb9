use Rattle.std.proofs.Common.{◌∙◌, ◌≡◌, IfSome, subst}
use Rattle.check_steps.proofs.Answered.{answered}
use Rattle.check_steps.proofs.compared.Compared.known.Goals as goal
use Rattle.check_steps.specs.Headings.{congruous}

pub returns-then-self-most : goal.returns-then-self-most
returns-then-self-most c =
    subst (λ p. IfSome c.copied.result (λ answer. answer ≡ congruous c.args.most p c.args.left c.args.right)) c.self.view_is
    (subst (λ m. IfSome c.copied.result (λ answer. answer ≡ congruous m c.self.inside.program c.args.left c.args.right)) c.if-self-most.true
    (answered c.self.inside.most c.self.inside.program c.self.inside.answers.entries c.args.left c.args.right c.copied.result c.self.invariant
    (c.copied.ensures ∙ c.get.ensures.value)))
