use Rattle.std.{proofs.Common.◌-◌, proofs.Common.◌≡◌, proofs.Common.find, specs.List.range_with_len, specs.Str.str_eq_ignore_ascii_case}
use Rattle.dialog_replies.proofs.calls.routine_named.Given as goal
use Rattle.dialog_replies.specs.Subject.{routine_named}

abbrev pub invariant-loop-routine : goal.invariant-loop-routine
invariant-loop-routine g l =
    let s = g.D.Debugged.subject l.run in
    record {
      left : find (λ routine. str_eq_ignore_ascii_case (s.name routine) l.name) (range_with_len l.routine (s.routines - l.routine)) ≡ routine_named s l.name;
    }
