use Rattle.made_program.proofs.FaultLines.{with_fault}
use Rattle.made_program.proofs.lines.made_lines.Goals as goal

pub returns-clause-finds : goal.returns-clause-finds
returns-clause-finds g c =
    with_fault (g.D.Debugged.subject c.args.run.now) _ c.run_finds_the_fault.ensures c.lines_of_search.ensures
