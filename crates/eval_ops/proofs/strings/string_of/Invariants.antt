use Rattle.std.proofs.Common.{◌++◌, ◌≡◌, drop}
use Rattle.core_program.specs.Values as values
use Rattle.eval_ops.proofs.strings.string_of.Given as goal

abbrev pub invariant-characters : goal.invariant-characters
invariant-characters l = record { so_far : l.cells ++ values.string_of (drop l.character-index l.text) ≡ values.string_of l.text }
