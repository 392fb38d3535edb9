use Rattle.std.proofs.Common.{◌+◌, ◌≡◌, ℕ, ⊎_elim, arith, get_or, refl}
use Rattle.std.proofs.lemmas.Bool.{cases_lt}
use Rattle.weight_lanes.proofs.MaskMarksPlaces.{NoneIn-join, none_before, none_marked}
use Rattle.weight_lanes.proofs.finding.next_of.Goals as goal

pub returns-then-hits-ne0-clause-least : goal.returns-then-hits-ne0-clause-least
returns-then-hits-ne0-clause-least c other low holds =
    let at = c.search.at in
    let lane = c.lowest.result in
    let Q : ℕ → Type 0 = λ place. get_or c.args.column.now place 0 ≡ c.args.value in
    let before = none_before Q at 16 c.equal_at-hits.result lane c.equal_at-hits.ensures c.lowest.ensures.set c.lowest.ensures.below in
    ⊎_elim (λ l. absurd ((NoneIn-join Q c.args.from at (at + lane) c.search.invariant.none before).none other low l holds.same))
    (λ ge. ge) (cases_lt other (at + lane))

pub search-preserved : goal.search-preserved
search-preserved c =
    let at = c.search.at in
    let Q : ℕ → Type 0 = λ place. get_or c.args.column.now place 0 ≡ c.args.value in
    record {
      low = omega arith;
      high = omega arith;
      none = NoneIn-join Q c.args.from at (at + 16) c.search.invariant.none (none_marked Q at (at + 16) 16 c.equal_at-hits.result refl c.equal_at-hits.ensures
          c.if-hits-ne0.false);
    }
