-- What the code of a refusal gives to the screen.
use Rattle.std.specs.Prelude.{◌≡◌, ◌⊎◌, ℕ, List, Option}
use Rattle.edge_ports.specs.Told.{GaveAll, GavePrefix}
use Rattle.debug_cli.specs.declared.status.Status.{Status}

-- the whole text was given, and the command ends with this status; or the screen failed, and got a first part of it
abbrev pub GivesText : Status → Status → List ℕ → (given given' : Option (List ℕ)) → Type 0
GivesText result wanted text given given' =
    ((result ≡ wanted) × GaveAll given given' text) ⊎ ((result ≡ Status.Screen) × GavePrefix given given' text)

-- memory ran out before anything was given
abbrev pub GivesNothing : Status → (given given' : Option (List ℕ)) → Type 0
GivesNothing result given given' = (result ≡ Status.Memory) × (given' ≡ given)
