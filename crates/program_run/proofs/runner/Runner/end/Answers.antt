use Rattle.program_run.proofs.CallsEnd.{by_jump, by_return}
use Rattle.program_run.proofs.runner.Runner.end.Goals as goal

pub returns-in-Returned-clause-rests : goal.returns-in-Returned-clause-rests
returns-in-Returned-clause-rests c p first t =
    let l = by_return p first c.args.self.now c.args.way c.args.answer c.in-Returned.is t in
    c.resume.ensures.rests p first l.out l.ending l.is

pub returns-in-Jumped-clause-rests : goal.returns-in-Jumped-clause-rests
returns-in-Jumped-clause-rests c p first t =
    let l = by_jump p first c.args.self.now c.args.way c.args.answer c.in-Jumped.field-0 c.in-Jumped.field-1 c.in-Jumped.is t in
    c.resume-in-Jumped.ensures.rests p first l.out l.ending l.is
