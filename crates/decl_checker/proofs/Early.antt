-- The first of the early rules is the first of all, if that is early.
use Rattle.std.proofs.Common.{if◌then◌else◌, ◌∙◌, ◌∷◌, ◌≡◌, [], ℕ, All, Bool, Contains, List, None, Option, Some, ap, arith, false, nat_eq, refl, subst, suc}
use Rattle.std.proofs.{Common.sym, Common.true, Common.zero, lemmas.List.Elements.All-filter}
use Rattle.check_steps.proofs.First.{first_of-is, first_of-none, late_all}
use Rattle.check_steps.specs.Breaks.{IsFirst, fault_at, fault_of, group, is_before, is_early}
use Rattle.check_steps.specs.declared.breaks.{Break.Break, CheckFault.CheckFault}
use Rattle.check_steps.specs.declared.breaks.Broken.{Broken, TheVariants.Early, TheVariants.Late, TheVariants.TooBig}
use Rattle.decl_checker.specs.Answers.{EarlyFaultIs, HasFirst, IsWithoutEarly, early_of}

stays : (e : Bool) (x : Break) (l : List Break) (b : Break) → Contains l b → Contains (if e then x ∷ l else l) b
stays true x l b c = (suc c.0, omega (arith, c.1), c.2)
stays false x l b c = c

heads : (e : Bool) (x : Break) (l : List Break) (b : Break) → x ≡ b → e ≡ true → Contains (if e then x ∷ l else l) b
heads true x l b same early = (0, omega arith, same)
heads false x l b same early = cc

-- an early one is among the early ones
kept : (bs : List Break) (b : Break) → Contains bs b → is_early b ≡ true → Contains (early_of bs) b
kept [] b c early = absurd (omega (arith, c.1))
kept (x ∷ xs) b (zero, h, same) early = heads (is_early x) x (early_of xs) b same (ap is_early same ∙ early)
kept (x ∷ xs) b (suc i, h, at) early = stays (is_early x) x (early_of xs) b (kept xs b (i, omega (arith, h), at) early)

early_first : (bs : List Break) (b : Break) → HasFirst bs (Some b) → is_early b ≡ true → IsFirst (early_of bs) b
early_first bs b known early =
    let first = first_of-is bs b known.first_is in
    (kept bs b first.0 early, All-filter is_early (λ a. is_before a b ≡ false) bs first.1)

leaves : (e : Bool) (x : Break) (l : List Break) → e ≡ false → l ≡ [] → (if e then x ∷ l else l) ≡ []
leaves true x l late empty = cc
leaves false x l late empty = empty

none_kept : (bs : List Break) → All (λ a. is_early a ≡ false) bs → early_of bs ≡ []
none_kept [] late = refl
none_kept (x ∷ xs) late = leaves (is_early x) x (early_of xs) (late 0 x (omega arith)) (none_kept xs (λ i d h. late (suc i) d (omega arith)))

told : (bs : List Break) (what : Broken) (token : ℕ) → nat_eq (group what) 0 ≡ true → IsFirst (early_of bs) (record { broken = what; token = token })
    → EarlyFaultIs bs (fault_at what token)
told bs (Early rule) token early first = first
told bs (Late rule) token early first = absurd (let no_one : false ≡ true = early in cc)
told bs TooBig token early first = absurd (let no_one : false ≡ true = early in cc)

-- what is answered of an early rule
pub early_fault : (bs : List Break) (b : Break) (e : CheckFault) → HasFirst bs (Some b) → is_early b ≡ true → e ≡ fault_of b → EarlyFaultIs bs e
early_fault bs b e known early same =
    let P : CheckFault → Type 0 = λ x. EarlyFaultIs bs x in
    subst P (sym same) (told bs b.broken b.token early (early_first bs b known early))

-- the least one, by what it is
pub found : (bs : List Break) (least : Option Break) (b : Break) → HasFirst bs least → least ≡ Some b → HasFirst bs (Some b)
found bs least b known is = record { first_is = known.first_is ∙ is }

pub nothing : (bs : List Break) (least : Option Break) → HasFirst bs least → least ≡ None → HasFirst bs None
nothing bs least known is = record { first_is = known.first_is ∙ is }

pub early_none : (bs : List Break) (b : Break) → HasFirst bs (Some b) → is_early b ≡ false → IsWithoutEarly bs
early_none bs b known late = none_kept bs (late_all bs b (first_of-is bs b known.first_is) late)

pub without : (bs : List Break) → HasFirst bs None → IsWithoutEarly bs
without bs known = ap early_of (first_of-none bs known.first_is)
