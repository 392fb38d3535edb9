use Rattle.program_run.proofs.CallsEnd.{returned}
use Rattle.program_run.proofs.runner.Runner.resume.Goals as goal

pub returns-in-None-clause-rests : goal.returns-in-None-clause-rests
returns-in-None-clause-rests c p first out t e =
    returned c.leave.new.self c.in_ok-leave.field-0 out (c.in_ok-leave.ensures.left p first _ t) c.in-None.is
    (c.in_ok-leave.ensures.chain c.requires.chain.0 c.requires.chain.1)
