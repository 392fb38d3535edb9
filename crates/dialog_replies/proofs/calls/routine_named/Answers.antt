use Rattle.std.proofs.Common.{◌<◌, ◌∙◌, ◌≡◌, ℕ, List, ap, arith, false, sym}
use Rattle.std.specs.Str.{str_eq_ignore_ascii_case}
use Rattle.dialog_replies.proofs.LinesInTurn.{passed_over}
use Rattle.dialog_replies.proofs.calls.routine_named.Goals as goal

pub loop-routine-preserved : goal.loop-routine-preserved
loop-routine-preserved g c =
    let s = g.D.Debugged.subject c.args.run.now in
    let here = c.loop-routine.routine in
    let name = c.args.name.now in
    let inside : here < s.routines = omega (arith, c.calls.ensures.routines) in
    let other : str_eq_ignore_ascii_case (s.name here) name ≡ false =
    ap (λ (spelled : List ℕ). str_eq_ignore_ascii_case spelled name) (sym c.name.ensures) ∙ sym c.is_same_name.ensures ∙ c.if-is_same_name.false in
    let over = passed_over (λ routine. str_eq_ignore_ascii_case (s.name routine) name) here s.routines inside other in
    record {
      left = sym over ∙ c.loop-routine.invariant.left;
    }
