-- Definitions as callers name them: a region by its number, a name by its spelling.
use Rattle.std.specs.Prelude.{ℕ, List, None, Option, Some}
use Rattle.core_program.specs.declared.rows.{NameRow.NameRow, Row.Row}
use Rattle.check_steps.specs.{Known.Known, Known.find, Known.row_at, Words.number_of_name}
use Rattle.check_steps.specs.Regions.{defined_in, region_at}
use Rattle.check_steps.specs.declared.regions.{Def.Def, Definition.Definition, Found.Found}

-- the number of a routine, by the row at its name
abbrev pub routine_in : Row → ℕ → ℕ
routine_in (Row.Name (NameRow.Routine assigned number region)) otherwise = number
routine_in r otherwise = otherwise

-- the region of a routine, by the row at its name
abbrev pub routine_region : Row → ℕ
routine_region (Row.Name (NameRow.Routine assigned number region)) = region
routine_region r = 0

-- what callers see of a definition: of a routine its number
abbrev pub seen : Known → Def → Def
seen k (Def.Routine token) = Def.Routine (routine_in (row_at k token) token)
seen k d = d

abbrev pub seen_of : Known → Option Definition → Option Def
seen_of k None = None
seen_of k (Some d) = Some (seen k d.def)

abbrev pub definition_of : Option Found → Option Definition
definition_of None = None
definition_of (Some f) = Some f.definition

abbrev pub numbered_in : Known → ℕ → Option ℕ → Option Def
numbered_in k region None = None
numbered_in k region (Some name) = seen_of k (defined_in k.regions region name)

-- what a region itself defines a name as
abbrev pub held_in : Known → ℕ → List ℕ → Option Def
held_in k region name = numbered_in k region (number_of_name k.names name)

abbrev pub numbered_around : Known → ℕ → Option ℕ → Option Def
numbered_around k region None = None
numbered_around k region (Some name) = seen_of k (definition_of (find k (region_at k.regions region).frame name))

-- what the closest region around this one that defines a name defines it as; this one is the closest
abbrev pub held_around : Known → ℕ → List ℕ → Option Def
held_around k region name = numbered_around k region (number_of_name k.names name)
