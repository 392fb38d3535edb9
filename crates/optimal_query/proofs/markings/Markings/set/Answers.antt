use Rattle.std.proofs.Common.{◌∙◌, ap, map, slice_set, sym}
use Rattle.std.proofs.lemmas.List.{length-set, map-set}
use Rattle.optimal_query.proofs.markings.Markings.set.Goals as goal
use Rattle.optimal_query.specs.Markings.{askable_flag}

pub invariant_of-self : goal.invariant_of-self
invariant_of-self g c =
    let call = c.args.call in
    let mark = c.args.mark in
    let marks = c.self.inside.weights.marks in
    rw c.changed.ensures.changed
    (record {
      same = ap (λ l. slice_set l call mark) c.self.invariant.same;
      flagged = ap (λ l. slice_set l call c.flag.result) c.self.invariant.flagged ∙ ap (slice_set (map askable_flag marks) call) c.flag.ensures
          ∙ sym (map-set askable_flag marks call mark);
      each = length-set marks call mark ∙ c.self.invariant.each;
      deep = c.self.invariant.deep;
    })
