-- The series of the parts of a record.
use Rattle.std.proofs.Common.{◌∷◌, [], refl}
use Rattle.grammar.specs.{Grammars.nothing, declared.terminals.Terminal.Terminal}
use Rattle.pas_tree.{proofs.Parts.parts, specs.Rules.arm_rule, specs.Rules.constant_starts, specs.Rules.section_rule, specs.Rules.variants_rule}
use Rattle.pas_phrases.proofs.ReadSeries.{Series}

abbrev pub sections : Series
sections = record {
  separator = Terminal.Semicolon;
  starts = Terminal.Name ∷ [];
  part = section_rule;
  end = variants_rule;
  part_closed = parts.section.is_closed;
  end_closed = parts.variants_closed;
}

abbrev pub arms : Series
arms = record { separator = Terminal.Semicolon; starts = constant_starts; part = arm_rule; end = nothing; part_closed = parts.arm.is_closed; end_closed = refl }
