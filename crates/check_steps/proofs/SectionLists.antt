-- One section further in two lists.
use Rattle.std.proofs.Common.{◌+◌, ◌-◌, ◌<◌, ◌≡◌, ℕ, ap, arith, false, suc}
use Rattle.core_program.specs.ProgramRows.{ProgramRows}
use Rattle.check_steps.specs.Headings.{both_match, lists_match, section_at, sections_match}

pub lists-onward : (p : ProgramRows) (n i a b : ℕ) → i < n
    → lists_match (n - i) p a b
    ≡ both_match (section_at p a) (section_at p b) (sections_match p (lists_match (n - (i + 1)) p)) (lists_match (n - (i + 1)) p)
lists-onward p n i a b below =
    let e : n - i ≡ suc (n - (i + 1)) = omega arith in
    ap (λ m. lists_match m p a b) e

pub lists-nowhere : (p : ProgramRows) (n i a b : ℕ) → n - i ≡ 0 → lists_match (n - i) p a b ≡ false
lists-nowhere p n i a b over = ap (λ m. lists_match m p a b) over

pub ruleset lists_onward = (lists-onward, lists-nowhere)
