use Rattle.std.proofs.Common.{◌+◌, ℕ, ⊎_elim, arith, refl}
use Rattle.std.proofs.lemmas.Bool.{cases_lt}
use Rattle.weight_lanes.proofs.MaskMarksPlaces.{NoneIn-join, none_before, none_marked}
use Rattle.weight_lanes.proofs.finding.next_leaving_fewer.Goals as goal
use Rattle.weight_lanes.specs.Places.{LeavesFewer}

pub returns-then-hits-ne0-clause-least : goal.returns-then-hits-ne0-clause-least
returns-then-hits-ne0-clause-least c other low holds =
    let at = c.search.at in
    let lane = c.lowest.result in
    let Q : ℕ → Type 0 = LeavesFewer c.args.weights.now c.args.askable.now c.args.total c.args.bound in
    let marks = c.fewer_at-hits.ensures in
    let before = none_before Q at 16 c.fewer_at-hits.result lane marks c.lowest.ensures.set c.lowest.ensures.below in
    ⊎_elim (λ l. absurd ((NoneIn-join Q c.args.from at (at + lane) c.search.invariant.none before).none other low l holds))
    (λ ge. ge) (cases_lt other (at + lane))

pub search-preserved : goal.search-preserved
search-preserved c =
    let at = c.search.at in
    let Q : ℕ → Type 0 = LeavesFewer c.args.weights.now c.args.askable.now c.args.total c.args.bound in
    record {
      low = omega arith;
      high = omega arith;
      none = NoneIn-join Q c.args.from at (at + 16) c.search.invariant.none (none_marked Q at (at + 16) 16 c.fewer_at-hits.result refl
          c.fewer_at-hits.ensures c.if-hits-ne0.false);
    }
