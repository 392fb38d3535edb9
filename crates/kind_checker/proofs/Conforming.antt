-- One spec further in a schema.
use Rattle.std.proofs.Common.{◌+◌, ◌-◌, ◌<◌, ◌||◌, ◌≡◌, ℕ, ap, arith, false, is_none, suc}
use Rattle.core_program.specs.Headings.{pair_fits}
use Rattle.check_steps.specs.Known.{Known, type_at}
use Rattle.kind_checker.specs.{Conformable.components_fitted, Conformable.conforms, Shapes.is_same_type}

pub conforms-onward : (k : Known) (n i t s : ℕ) → i < n → conforms (n - i) k t s
    ≡ (is_none (type_at k t) || pair_fits (λ a c. is_same_type k a c || conforms (n - (i + 1)) k a c) (components_fitted k (type_at k t) (type_at k s)))
conforms-onward k n i t s below =
    let e : n - i ≡ suc (n - (i + 1)) = omega arith in
    ap (λ m. conforms m k t s) e

pub conforms-nowhere : (k : Known) (n i t s : ℕ) → n - i ≡ 0 → conforms (n - i) k t s ≡ false
conforms-nowhere k n i t s over = ap (λ m. conforms m k t s) over

pub ruleset conforms_onward = (conforms-onward, conforms-nowhere)
