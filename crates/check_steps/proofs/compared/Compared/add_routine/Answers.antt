use Rattle.check_steps.proofs.Answered.{no_answers}
use Rattle.check_steps.proofs.compared.Compared.add_routine.Goals as goal

pub invariant_of-self : goal.invariant_of-self
invariant_of-self c = no_answers c.self.inside.most c.add_routine.new.self c.new.result.entries c.new.ensures.empty

pub invariant_of-self-2 : goal.invariant_of-self-2
invariant_of-self-2 c = no_answers c.self.inside.most c.add_routine.new.self c.new.result.entries c.new.ensures.empty
