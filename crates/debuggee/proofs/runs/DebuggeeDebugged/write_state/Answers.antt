use Rattle.std.proofs.Common.{subst, sym}
use Rattle.question_text.specs.{Cards.Recorded, Prepared.AreOpenedIn}
use Rattle.debuggee.proofs.runs.DebuggeeDebugged.write_state.Goals as goal

-- what was prepared is of the run, as `recorded` tells it
pub write_state-requires-clause-opened : goal.write_state-requires-clause-opened
write_state-requires-clause-opened g c =
    subst (λ (r : Recorded). AreOpenedIn r c.args.call c.args.opened.now) (sym c.recorded.ensures.recorded) c.requires.prepared
