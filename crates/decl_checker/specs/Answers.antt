-- What is answered of the declarations of a program.
use Rattle.std.specs.Prelude.{◌≡◌, [], List, None, Option, filter}
use Rattle.check_steps.specs.Breaks.{IsFirst, first_broken, is_early}
use Rattle.check_steps.specs.declared.breaks.{Break.Break, Broken.TheVariants.Early, CheckFault.CheckFault}

-- the broken rules that can be told from declarations and names alone
abbrev pub early_of : List Break → List Break
early_of bs = filter is_early bs

-- None of them is broken.
abbrev pub IsWithoutEarly : List Break → Type 0
IsWithoutEarly bs = early_of bs ≡ []

-- The answer is the first of them, or that memory ran out.
abbrev pub EarlyFaultIs : List Break → CheckFault → Type 0
EarlyFaultIs bs (CheckFault.Rule rule token) = IsFirst (early_of bs) (record { broken = Early rule; token = token })
EarlyFaultIs bs (CheckFault.TooBig token) = ⊥
EarlyFaultIs bs CheckFault.Memory = Unit {0}

-- the first of these broken rules, if there are any
pub record HasFirst (bs : List Break) (first : Option Break) : Type 0 where
  pub first_is : first_broken bs None ≡ first
