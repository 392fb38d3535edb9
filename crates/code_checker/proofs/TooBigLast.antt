-- Where something too big is the first of what is broken, no rule is broken.
use Rattle.std.proofs.Common.{◌&&◌, ◌||◌, ◌≡◌, ◌≤◌, ℕ, List, arith, false, nat_eq, nat_lt, refl, slice_index_or, subst, sym, true}
use Rattle.std.proofs.lemmas.Bool.Decides.{nat_tests}
use Rattle.check_steps.specs.Breaks.{FaultIs, IsFirst, fault_at, is_before}
use Rattle.check_steps.specs.declared.breaks.{Break.Break, CheckFault.CheckFault}
use Rattle.check_steps.specs.declared.breaks.Broken.{Broken, TheVariants.Early, TheVariants.Late, TheVariants.TooBig}
use Rattle.code_checker.specs.Laws.{IsTooBigAlone}

no_earlier : (a token : ℕ) → (nat_lt a token || (nat_eq a token && nat_lt 0 0)) ≡ false → token ≤ a
no_earlier a token h = grind (arith, nat_tests)

-- what is not before something too big
after : (what : Broken) (a token : ℕ) → is_before (record { broken = what; token = a }) (record { broken = TooBig; token = token }) ≡ false
    → (what ≡ TooBig) × (token ≤ a)
after (Early rule) a token h = absurd (let no_one : true ≡ false = h in cc)
after (Late rule) a token h = absurd (let no_one : true ≡ false = h in cc)
after TooBig a token h = (refl, no_earlier a token h)

alone : (bs : List Break) (token : ℕ) → IsFirst bs (record { broken = TooBig; token = token }) → IsTooBigAlone bs token
alone bs token first = record {
  there = first.0;
  no_rule = λ i d h. let b = slice_index_or bs i d in (after b.broken b.token token (first.1 i d h)).0;
  first = λ i d h. let b = slice_index_or bs i d in (after b.broken b.token token (first.1 i d h)).1;
}

told : (bs : List Break) (token : ℕ) (what : Broken) (a : ℕ) → IsFirst bs (record { broken = what; token = a }) → CheckFault.TooBig token ≡ fault_at what a
    → IsTooBigAlone bs token
told bs token (Early rule) a first same = absurd (let no_one : CheckFault.TooBig token ≡ CheckFault.Rule rule a = same in cc)
told bs token (Late rule) a first same = absurd (let no_one : CheckFault.TooBig token ≡ CheckFault.Rule rule a = same in cc)
told bs token TooBig a first same =
    let here : token ≡ a = cc in
    let P : ℕ → Type 0 = λ n. IsTooBigAlone bs n in
    subst P (sym here) (alone bs a first)

pub too_big_last : (bs : List Break) (token : ℕ) → FaultIs bs (CheckFault.TooBig token) → IsTooBigAlone bs token
too_big_last bs token f = told bs token f.0.broken f.0.token f.1 f.2
