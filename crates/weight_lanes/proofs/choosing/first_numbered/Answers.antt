use Rattle.std.proofs.Common.{◌+◌, ◌≡◌, ℕ, arith, refl}
use Rattle.weight_lanes.proofs.MaskMarksPlaces.{NoneIn-join, none_before, none_marked}
use Rattle.weight_lanes.proofs.choosing.first_numbered.Goals as goal
use Rattle.weight_lanes.specs.Lanes.{lane_number}

pub returns-then-hits-ne0-clause-first : goal.returns-then-hits-ne0-clause-first
returns-then-hits-ne0-clause-first c =
    let at = c.search.at in
    let lane = c.lowest.result in
    let Q : ℕ → Type 0 = λ place. lane_number c.args.weights.now c.args.askable.now c.args.total place ≡ c.args.sought in
    let marks = c.numbered_at-hits.ensures in
    let small = marks.inside lane c.lowest.ensures.set in
    record {
      inside = omega arith;
      holds = marks.holds lane c.lowest.ensures.set;
      before = NoneIn-join Q 0 at (at + lane) c.search.invariant.none (none_before Q at 16 c.numbered_at-hits.result lane marks c.lowest.ensures.set
          c.lowest.ensures.below);
    }

pub search-preserved : goal.search-preserved
search-preserved c =
    let at = c.search.at in
    let Q : ℕ → Type 0 = λ place. lane_number c.args.weights.now c.args.askable.now c.args.total place ≡ c.args.sought in
    record {
      high = omega arith;
      none = NoneIn-join Q 0 at (at + 16) c.search.invariant.none (none_marked Q at (at + 16) 16 c.numbered_at-hits.result refl c.numbered_at-hits.ensures
          c.if-hits-ne0.false);
    }
