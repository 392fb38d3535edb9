use Rattle.std.proofs.Common.{◌∙◌}
use Rattle.question_text.proofs.LinesInTurn.{line_on}
use Rattle.question_text.proofs.traces.write_events.Goals as goal
use Rattle.question_text.specs.{Cards.recorded_in, Traces.event_line}

pub events-preserved : goal.events-preserved
events-preserved g c =
    let printout = g.P.Printer.printout in (
      line_on (event_line (recorded_in c.args.from.now)) c.args.events.now c.events.i c.at.result (printout c.events.out).text
          (printout c.write_event.new.out).text _ c.at.ensures.found c.write_event.ensures.0 c.events.invariant.0,
      c.write_event.ensures.1 ∙ c.events.invariant.1,
    )
