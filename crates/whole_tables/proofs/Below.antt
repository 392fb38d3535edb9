-- One number fewer in a test of all below one.
use Rattle.std.proofs.Common.{◌&&◌, ◌-◌, ◌<◌, ◌≡◌, ℕ, Bool, ap, arith, suc, true}
use Rattle.whole_tables.specs.Fits.{all_below}

pub below-onward : (test : ℕ → Bool) (n : ℕ) → 0 < n → all_below n test ≡ (test (n - 1) && all_below (n - 1) test)
below-onward test n inside =
    let e : n ≡ suc (n - 1) = omega (arith, inside) in
    ap (λ m. all_below m test) e

pub below-nowhere : (test : ℕ → Bool) (n : ℕ) → n ≡ 0 → all_below n test ≡ true
below-nowhere test n e = ap (λ m. all_below m test) e

pub ruleset below_loops = (below-onward, below-nowhere)
