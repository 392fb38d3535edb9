use Rattle.std.proofs.Common.{ap}
use Rattle.check_steps.proofs.Answered.{answers_stay}
use Rattle.check_steps.proofs.compared.Compared.put_routine.Goals as goal
use Rattle.check_steps.specs.Compared.{seen_of}

pub invariant_of-self : goal.invariant_of-self
invariant_of-self c = answers_stay c.self.inside.most c.self.inside.program c.put_routine.new.self c.self.inside.answers.entries
    (ap seen_of c.put_routine.ensures) c.self.invariant
