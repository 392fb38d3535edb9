-- The command line `pasask SOURCE [--input F] [--budget N] [--load F]`, by clap's definition of a command.
use Rattle.std.specs.Prelude.{Some, codes, true}
use Rattle.clap.specs.Words.{App, Rule, Text, new_app, new_rule, with_rule}

-- SOURCE, which has to be there
abbrev pub source_argument : Rule
source_argument = record (new_rule (codes "source")) { required = true }

-- an option with one value
abbrev pub option_named : Text → Rule
option_named name = record (new_rule name) { long = Some name }

abbrev pub command_line : App
command_line =
    with_rule (with_rule (with_rule (with_rule (new_app (codes "pasask"))
    source_argument) (option_named (codes "input"))) (option_named (codes "budget"))) (option_named (codes "load"))
