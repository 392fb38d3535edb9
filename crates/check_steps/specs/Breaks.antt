-- Broken rules, their order, and the first of them.
use Rattle.std.specs.Prelude.{if◌then◌else◌, ◌&&◌, ◌||◌, ◌∷◌, ◌≡◌, [], ℕ, All, Bool, Contains, List, None, Option, Some}
use Rattle.std.specs.Prelude.{false, nat_eq, nat_lt}
use Rattle.check_steps.specs.declared.breaks.{Break.Break, CheckFault.CheckFault}
use Rattle.check_steps.specs.declared.breaks.Broken.{Broken, TheVariants.Early, TheVariants.Late, TheVariants.TooBig}

-- Rules that can be told from declarations and names alone come first. Too many cells count where no rule is broken.
abbrev pub group : Broken → ℕ
group (Early rule) = 0
group (Late rule) = 1
group TooBig = 2

abbrev pub number : Broken → ℕ
number (Early rule) = rule
number (Late rule) = rule
number TooBig = 0

-- by groups, then by tokens, and at one token by the rules' numbers
abbrev pub is_before : Break → Break → Bool
is_before a b = nat_lt (group a.broken) (group b.broken) || (nat_eq (group a.broken) (group b.broken)
    && (nat_lt a.token b.token || (nat_eq a.token b.token && nat_lt (number a.broken) (number b.broken))))

-- a rule that can be told from declarations and names alone
abbrev pub is_early : Break → Bool
is_early b = nat_eq (group b.broken) 0

-- It is one of them, and none of them is before it.
abbrev pub IsFirst : List Break → Break → Type 0
IsFirst bs b = Contains bs b × All (λ a. is_before a b ≡ false) bs

abbrev pub earlier : Break → Option Break → Option Break
earlier b None = Some b
earlier b (Some a) = if is_before b a then Some b else Some a

-- the first of the broken rules and one that was known before
abbrev pub first_broken : List Break → Option Break → Option Break
first_broken [] known = known
first_broken (b ∷ bs) known = first_broken bs (earlier b known)

-- what is answered of a broken rule
abbrev pub fault_at : Broken → ℕ → CheckFault
fault_at (Early rule) token = CheckFault.Rule rule token
fault_at (Late rule) token = CheckFault.Rule rule token
fault_at TooBig token = CheckFault.TooBig token

abbrev pub fault_of : Break → CheckFault
fault_of b = fault_at b.broken b.token

-- It is what is answered of the first of these broken rules.
abbrev pub IsOfFirst : List Break → CheckFault → Type 0
IsOfFirst bs e = (b : Break) × IsFirst bs b × (e ≡ fault_of b)

-- The answer is of the first of these broken rules, or that memory ran out.
abbrev pub FaultIs : List Break → CheckFault → Type 0
FaultIs bs (CheckFault.Rule rule token) = IsOfFirst bs (CheckFault.Rule rule token)
FaultIs bs (CheckFault.TooBig token) = IsOfFirst bs (CheckFault.TooBig token)
FaultIs bs CheckFault.Memory = Unit {0}
