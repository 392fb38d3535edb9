use Rattle.std.proofs.Common.{◌∙◌, ap, arith, map, set, sym}
use Rattle.std.proofs.lemmas.List.{map-set}
use Rattle.optimal_query.proofs.CallsOfRoutine.{up_to_all, up_to_next, up_to_none}
use Rattle.optimal_query.proofs.markings.look_up.Goals as goal
use Rattle.optimal_query.specs.Markings.{askable_flag}

pub calls-init : goal.calls-init
calls-init g c = record {
  up_to = up_to_none c.requires.were;
  flagged = c.requires.flags;
  not_fallen = omega arith;
  cost = omega arith;
  within = omega arith;
}

pub calls-preserved : goal.calls-preserved
calls-preserved g c =
    let next = rw c.requires.those_calls at c.in-Some.ensures in
    record {
      up_to = up_to_next c.in-Some.place c.mark-mark.result c.calls.invariant.up_to next c.mark-mark.ensures;
      flagged = ap (λ l. set l c.in-Some.place c.flag.result) c.calls.invariant.flagged
          ∙ ap (set (map askable_flag c.calls.marks) c.in-Some.place) c.flag.ensures
          ∙ sym (map-set askable_flag c.calls.marks c.in-Some.place c.mark-mark.result);
      not_fallen = omega (arith, c.calls.invariant.not_fallen, c.tick.ensures);
      cost = omega (arith, c.calls.invariant.cost, c.tick.ensures, next.at_least);
      within = omega (arith, next.holds.inside);
    }

pub returns-clause-marks : goal.returns-clause-marks
returns-clause-marks g c = up_to_all c.calls.invariant.up_to (rw c.requires.those_calls at c.in_default.ensures)
