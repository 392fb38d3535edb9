use Rattle.check_steps.proofs.Answered.{no_answers}
use Rattle.check_steps.proofs.compared.Compared.put_seen.Goals as goal

pub invariant_of-self : goal.invariant_of-self
invariant_of-self c = no_answers c.self.inside.most c.put.new.self c.new.result.entries c.new.ensures.empty
