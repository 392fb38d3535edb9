use Rattle.optimal_query.proofs.CallsOfRoutine.{next_here}
use Rattle.optimal_query.proofs.routine_calls.next_call.Goals as goal

pub returns-then-routines-from : goal.returns-then-routines-from
returns-then-routines-from c =
    rw (← c.routine_column-routines.ensures)
    (next_here c.routine_column-routines.result.now c.args.routine c.args.from
    (record { inside = c.if-from-routines.true; same = c.if-routines-from.true }))
