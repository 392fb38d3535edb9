-- Which rules can be told from declarations and names alone.
use Rattle.std.specs.Prelude.{◌||◌, ℕ, Bool, nat_eq, not, true}
use Rattle.check_steps.specs.declared.breaks.Broken.{Broken, TheVariants.Early, TheVariants.Late, TheVariants.TooBig}

-- the rules that can be told from declarations and names alone
abbrev pub is_of_declarations : ℕ → Bool
is_of_declarations rule = nat_eq rule 1 || nat_eq rule 2 || nat_eq rule 4 || nat_eq rule 5 || nat_eq rule 7
    || nat_eq rule 8 || nat_eq rule 9 || nat_eq rule 10 || nat_eq rule 14 || nat_eq rule 34

-- A rule is told early exactly if it is one of these.
abbrev pub is_told : Broken → Bool
is_told (Early rule) = is_of_declarations rule
is_told (Late rule) = not (is_of_declarations rule)
is_told TooBig = true
