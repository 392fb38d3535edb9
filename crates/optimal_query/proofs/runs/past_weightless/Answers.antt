use Rattle.std.proofs.Common.{◌+◌, ◌≡◌, ap, arith, inl, inr, slice_index}
use Rattle.optimal_query.proofs.BestOfRuns.{cases_lt, hidden_more}
use Rattle.optimal_query.proofs.runs.past_weightless.Goals.{else-weights-call-eq0, then-weights-call-eq0}
use Rattle.optimal_query.proofs.runs.past_weightless.Goals as goal

pub loop-call-preserved : goal.loop-call-preserved
loop-call-preserved c =
    let last = c.args.last.now in
    let weights = c.args.weights.now in
    let here = c.loop-call.call in
    let inv = c.loop-call.invariant in
    elim c.if-weights-call-eq0.branch [
      | then-weights-call-eq0 w ↦ record {
        beyond = λ call h i zero. elim (cases_lt call here) [
          | inl before ↦ omega (arith, inv.beyond call h before zero, w.max-reached.ensures, w.reached-is)
          | inr after ↦ let same : call ≡ here = omega arith in omega (arith, ap (slice_index last) same, w.max-reached.ensures, w.reached-is)
        ];
        hidden = λ call h i. elim (cases_lt call (c.loop-call.reached + 1)) [
          | inl before ↦ hidden_more last weights c.args.from here call (inv.hidden call h (omega arith))
          | inr after ↦ record {
            above = here;
            from_here = omega arith;
            inside = omega arith;
            weightless = w.if-weights-call-eq0.true;
            reaches = omega (arith, w.max-reached.ensures, w.reached-is);
          }
        ];
      }
      | else-weights-call-eq0 w ↦ record {
        beyond = λ call h i zero. elim (cases_lt call here) [
          | inl before ↦ omega (arith, inv.beyond call h before zero, w.reached-is)
          | inr after ↦ let same : call ≡ here = omega arith in absurd (omega (arith, ap (slice_index weights) same, w.if-weights-call-eq0.false))
        ];
        hidden = λ call h i. hidden_more last weights c.args.from here call (inv.hidden call h (omega (arith, w.reached-is)));
      }
    ]
