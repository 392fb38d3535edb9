-- How texts are given, char by char.
use Rattle.std.specs.Prelude.{◌∷◌, [], ℕ, Bool, List, Option, map}
use Rattle.core_program.specs.{Actions.Action, Output.Text, Output.gives}

-- the byte of one char is given, if it is defined
abbrev pub give_one : Option ℕ → Action (Unit {0})
give_one char = gives (char ∷ [])

-- a text, by the byte of each of its chars
abbrev pub text_by : {C : Type 0} → (byte : C → Option ℕ) → (is_cut : Bool) → List C → Text
text_by byte is_cut chars = record { chars = map byte chars; is_cut = is_cut }
