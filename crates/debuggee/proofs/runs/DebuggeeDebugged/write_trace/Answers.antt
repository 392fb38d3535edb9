use Rattle.std.proofs.Common.{◌∙◌, ℕ, List, ap, subst}
use Rattle.edge_ports.specs.Printouts.{Prints}
use Rattle.question_text.specs.{Cards.Recorded, Traces.trace_text}
use Rattle.debuggee.proofs.runs.DebuggeeDebugged.write_trace.Goals as goal

pub returns : goal.returns
returns g c =
    let printout = g.P.Printer.printout in
    let trace = c.args.trace.now in
    let is = ap (λ (r : Recorded). trace_text r c.args.call trace.events trace.way) c.recorded.ensures.recorded ∙ c.requires.prepared in
    subst (λ (t : List ℕ). Prints (printout c.args.out.now) (printout c.write_trace.new.out) t) is c.write_trace.ensures
