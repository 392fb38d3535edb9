-- One row further in a chain of holders.
use Rattle.std.proofs.Common.{◌+◌, ◌-◌, ◌<◌, ◌≡◌, ℕ, ap, arith, false, suc}
use Rattle.check_steps.specs.Known.{Known, row_at}
use Rattle.expression_checker.specs.Names.{holder_in, is_packed_from, is_packed_record, packed_or}

pub holders-onward : (k : Known) (n i at : ℕ) → i < n
    → is_packed_from (n - i) k at ≡ packed_or (holder_in (row_at k at)) (is_packed_record (row_at k at)) (is_packed_from (n - (i + 1)) k)
holders-onward k n i at below =
    let e : n - i ≡ suc (n - (i + 1)) = omega arith in
    ap (λ m. is_packed_from m k at) e

pub holders-nowhere : (k : Known) (n i at : ℕ) → n - i ≡ 0 → is_packed_from (n - i) k at ≡ false
holders-nowhere k n i at over = ap (λ m. is_packed_from m k at) over

pub ruleset holders_outward = (holders-onward, holders-nowhere)
