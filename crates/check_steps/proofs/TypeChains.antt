-- One spec further in two schemas.
use Rattle.std.proofs.Common.{◌+◌, ◌-◌, ◌<◌, ◌||◌, ◌≡◌, ℕ, ap, arith, suc}
use Rattle.core_program.specs.{Headings.pair_fits, ProgramRows.ProgramRows, ProgramRows.type_at}
use Rattle.check_steps.specs.Headings.{components_alike, is_same_type, types_match}

pub types-onward : (p : ProgramRows) (n i a b : ℕ) → i < n → types_match (n - i) p a b
    ≡ (is_same_type p a b || pair_fits (types_match (n - (i + 1)) p) (components_alike p (type_at p a) (type_at p b)))
types-onward p n i a b below =
    let e : n - i ≡ suc (n - (i + 1)) = omega arith in
    ap (λ m. types_match m p a b) e

pub types-at_end : (p : ProgramRows) (n i a b : ℕ) → n - i ≡ 0 → types_match (n - i) p a b ≡ is_same_type p a b
types-at_end p n i a b over = ap (λ m. types_match m p a b) over

pub ruleset types_onward = (types-onward, types-at_end)
