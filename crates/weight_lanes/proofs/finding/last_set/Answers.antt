use Rattle.std.proofs.Common.{◌+◌, ◌-◌, ◌≢◌, ℕ, ⊎_elim, arith, get_or, length}
use Rattle.std.proofs.lemmas.Bool.{cases_lt}
use Rattle.weight_lanes.proofs.LastPartIsZero.{greatest_set, none_set}
use Rattle.weight_lanes.proofs.MaskMarksPlaces.{NoneIn-join, none_after, none_marked}
use Rattle.weight_lanes.proofs.finding.last_set.Goals as goal

pub returns-then-hits-ne0-clause-greatest : goal.returns-then-hits-ne0-clause-greatest
returns-then-hits-ne0-clause-greatest c other set =
    let flags = c.args.flags.now in
    let end = c.search.end in
    let at = end - 32 in
    let lane = c.highest.result in
    let Q : ℕ → Type 0 = λ place. get_or flags place 0 ≢ 0 in
    let after = none_after Q at end 32 c.set_at-hits.result lane (omega arith) c.set_at-hits.ensures c.highest.ensures.above in
    let clear = NoneIn-join Q (at + lane + 1) end (length flags) after c.search.invariant.none in
    ⊎_elim (λ l. omega arith) (λ ge. absurd (clear.none other ge set.inside set.nonzero)) (cases_lt other (at + lane + 1))

pub search-preserved : goal.search-preserved
search-preserved c =
    let flags = c.args.flags.now in
    let end = c.search.end in
    let at = end - 32 in
    let Q : ℕ → Type 0 = λ place. get_or flags place 0 ≢ 0 in
    record {
      high = omega arith;
      none = NoneIn-join Q at end (length flags) (none_marked Q at end 32 c.set_at-hits.result (omega arith) c.set_at-hits.ensures c.if-hits-ne0.false)
          c.search.invariant.none;
    }

pub returns-clause-none : goal.returns-clause-none
returns-clause-none c = none_set c.args.flags.now c.search.end c.last_set.result c.search.invariant.high c.search.invariant.none c.last_set.ensures.none

pub returns-clause-greatest : goal.returns-clause-greatest
returns-clause-greatest c = greatest_set c.args.flags.now c.search.end c.last_set.result c.search.invariant.high c.search.invariant.none
    c.last_set.ensures.greatest
