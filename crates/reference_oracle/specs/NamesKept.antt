-- Variables by their names, as the code keeps them.
use Rattle.std.specs.Prelude.{◌≡◌, ℕ, Bool, List, Option, find}
use Rattle.std.specs.{BTreeMap.BTreeMap, BTreeMap.get_by, Cmp.Lexicographic.slice_cmp, Global.Vec, Ordering.nat_cmp}
use Rattle.std.specs.Str.{bytes_eq, str_to_ascii_lowercase}
use Rattle.core_program.specs.ProgramRows.{ProgramRows, text_at}
use Rattle.reference_oracle.specs.declared.matches.BlockVariable.{BlockVariable}

-- the name that a token spells, in small letters
abbrev pub small_name : ProgramRows → (token : ℕ) → List ℕ
small_name p token = str_to_ascii_lowercase (text_at p token)

-- a variable has this name
abbrev pub is_named : ProgramRows → (name : List ℕ) → BlockVariable → Bool
is_named p name v = bytes_eq name (small_name p v.token)

abbrev pub named_at : BTreeMap (Vec ℕ) BlockVariable → Vec ℕ → Option BlockVariable
named_at named name = get_by (λ k. slice_cmp nat_cmp name.items k.items) named

-- under each name stands the first of these variables that has it
abbrev pub AreNamed : ProgramRows → List BlockVariable → BTreeMap (Vec ℕ) BlockVariable → Type 0
AreNamed p variables named = (name : Vec ℕ) → named_at named name ≡ find (is_named p name.items) variables
