-- One section further in a list of formal parameters.
use Rattle.std.proofs.Common.{◌+◌, ◌-◌, ◌<◌, ◌≡◌, ℕ, ap, arith, false, suc}
use Rattle.check_steps.specs.Known.{Known}
use Rattle.kind_checker.specs.Headings.{section_at}
use Rattle.expression_checker.specs.Callees.{taken_or, takes_from}

pub sections-onward : (k : Known) (n i at count : ℕ) → i < n
    → takes_from (n - i) k at count ≡ taken_or (section_at k at) count (takes_from (n - (i + 1)) k)
sections-onward k n i at count below =
    let e : n - i ≡ suc (n - (i + 1)) = omega arith in
    ap (λ m. takes_from m k at count) e

pub sections-nowhere : (k : Known) (n i at count : ℕ) → n - i ≡ 0 → takes_from (n - i) k at count ≡ false
sections-nowhere k n i at count over = ap (λ m. takes_from m k at count) over

pub ruleset sections_onward = (sections-onward, sections-nowhere)
