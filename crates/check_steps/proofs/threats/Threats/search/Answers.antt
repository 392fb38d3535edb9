use Rattle.std.proofs.Common.{◌-◌, ◌∙◌, ap}
use Rattle.check_steps.proofs.FirstThreat.{begun_later}
use Rattle.check_steps.proofs.threats.Threats.search.Goals as goal
use Rattle.check_steps.specs.Threats.{first_threat}

pub returns : goal.returns
returns c =
    let begin = c.begin-begin.result in
    c.first_from.ensures
    ∙ ap (λ l. first_threat (c.args.to - begin) l c.args.variable begin) (c.deref.ensures.value ∙ c.self.view_is)
    ∙ begun_later c.args.self.now c.args.variable c.args.from begin c.args.to c.begin-begin.ensures.order c.begin-begin.ensures.none
