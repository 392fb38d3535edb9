use Rattle.std.proofs.Common.{◌<◌, ◌∙◌, ◌≤◌, ap, arith, length, map, set, sym}
use Rattle.std.proofs.lemmas.List.{map-set}
use Rattle.optimal_query.proofs.CallsOfRoutine.{before_all, before_next}
use Rattle.optimal_query.proofs.markings.look_up_each.Goals as goal
use Rattle.optimal_query.specs.Markings.{askable_flag}

pub calls-preserved : goal.calls-preserved
calls-preserved g c =
    let are = c.calls.invariant.before in
    let inside : c.calls.place < length c.calls.marks = omega (arith, are.each, c.requires.each) in
    record {
      before = before_next c.mark-mark.result are inside c.mark-mark.ensures;
      flagged = ap (λ l. set l c.calls.place c.flag.result) c.calls.invariant.flagged
          ∙ ap (set (map askable_flag c.calls.marks) c.calls.place) c.flag.ensures
          ∙ sym (map-set askable_flag c.calls.marks c.calls.place c.mark-mark.result);
      cost = omega (arith, c.calls.invariant.cost, c.tick.ensures);
    }

pub returns-clause-marks : goal.returns-clause-marks
returns-clause-marks g c =
    let are = c.calls.invariant.before in
    let end : length c.calls.marks ≤ c.calls.place = omega (arith, are.each, c.requires.each) in
    before_all are end
