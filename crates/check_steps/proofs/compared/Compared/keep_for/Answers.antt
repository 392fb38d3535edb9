use Rattle.check_steps.proofs.Answered.{no_answers}
use Rattle.check_steps.proofs.compared.Compared.keep_for.Goals as goal

pub invariant_of-self : goal.invariant_of-self
invariant_of-self c = no_answers c.args.most c.self.inside.program c.new.result.entries c.new.ensures.empty
