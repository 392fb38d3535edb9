-- Program parameters (6.10).
use Rattle.std.specs.Prelude.{if◌then◌else◌, ℕ, Bool, List, None, Option, Some, codes, is_some}
use Rattle.pas_tree.specs.BlockTrees.{ParametersTree}
use Rattle.core_program.specs.declared.rows.{NameRow.NameRow, Row.Row}
use Rattle.core_program.specs.declared.rows.TextFile.{TextFile, TheVariants.Input, TheVariants.Output}
use Rattle.check_steps.specs.{Names.define_in, Words.number_of_name, declared.regions.Def.Def}
use Rattle.check_steps.specs.Known.{Known, name_at}
use Rattle.check_steps.specs.Steps.{◌>>=◌, Step, early, give, look, put}
use Rattle.kind_checker.specs.Names.{each_name}
use Rattle.denoter_checker.specs.RoutineParts.{is_this_number}

-- whether the name that a token spells is this one
abbrev pub spells : Known → ℕ → List ℕ → Bool
spells k token name = is_this_number (number_of_name k.names name) (name_at k token)

-- the text file that a program parameter names, if it names one
abbrev pub text_file_named : Known → ℕ → Option TextFile
text_file_named k token = if spells k token (codes "input") then Some Input
    else if spells k token (codes "output") then Some Output else None

abbrev pub define_file : ℕ → ℕ → Option TextFile → Step (Unit {0})
define_file region token None = give tt
define_file region token (Some file) = do
  _ ← define_in region (record { def = Def.TextFile token; token = token; end = token })
  put token (Row.Name (NameRow.TextFile file))

-- Rule 34: a program parameter other than input and output. These two are defined in the region of the program block.
unfoldable pub program_parameter : ℕ → Unit {0} → ℕ → Step (Unit {0})
program_parameter region u token = do
  file ← look (λ k. text_file_named k token)
  _ ← early 34 token (is_some file)
  define_file region token file

abbrev pub program_parameters : ℕ → Option ParametersTree → Step (Unit {0})
program_parameters region None = give tt
program_parameters region (Some p) = each_name (program_parameter region) tt p.names
