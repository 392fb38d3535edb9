use Rattle.check_steps.proofs.Answered.{no_answers}
use Rattle.check_steps.proofs.compared.Compared.new.Goals as goal

pub invariant_of-result : goal.invariant_of-result
invariant_of-result c = no_answers 0 c.args.program c.new.result.entries c.new.ensures.empty
