use Rattle.std.proofs.Common.{◌*◌, ◌+◌, ◌-◌, ◌∷◌, ◌≤◌, [], length}
use Rattle.grammar.specs.{Grammars.many, Grammars.nothing, Grammars.series, Reading.read, declared.terminals.Terminal.Terminal}
use Rattle.pas_tree.specs.{Denoters.arm_step, Denoters.next_denoter_node, Denoters.section_step, FirstFollow.pascal}
use Rattle.pas_tree.specs.Rules.{arm_rule, constant_starts, next_denoter_rule, section_rule, variants_rule}
use Rattle.pas_phrases.{proofs.ReadLists.ListSoFar, proofs.ReadSeries.SeriesSoFar, specs.Items.items_from}
use Rattle.pas_denoters.proofs.FieldSeries.{arms, sections}
use Rattle.pas_denoters.proofs.denoters.+denoters.Given as goal

abbrev pub invariant-read_next_denoters-denoters : goal.invariant-read_next_denoters-denoters
invariant-read_next_denoters-denoters l = record {
  so_far : ListSoFar next_denoter_node l.depth (Terminal.Comma ∷ []) next_denoter_rule l.others.items (items_from l.tokens l.next)
      (read pascal l.depth (many (Terminal.Comma ∷ []) next_denoter_rule) (items_from l.tokens l.at));
  forward : l.at ≤ l.next;
}

abbrev pub decreases-read_next_denoters-denoters : goal.decreases-read_next_denoters-denoters
decreases-read_next_denoters-denoters l = length l.tokens - l.next

abbrev pub invariant-read_sections-sections : goal.invariant-read_sections-sections
invariant-read_sections-sections l = record {
  so_far : SeriesSoFar section_step l.depth sections l.others.items (items_from l.tokens l.next)
      (read pascal l.depth (series Terminal.Semicolon (Terminal.Name ∷ []) section_rule variants_rule) (items_from l.tokens l.at));
  forward : l.at ≤ l.next;
}

abbrev pub decreases-read_sections-sections : goal.decreases-read_sections-sections
decreases-read_sections-sections l = length l.tokens - l.next

abbrev pub invariant-read_arms-arms : goal.invariant-read_arms-arms
invariant-read_arms-arms l = record {
  so_far : SeriesSoFar arm_step l.depth arms l.others.items (items_from l.tokens l.next)
      (read pascal l.depth (series Terminal.Semicolon constant_starts arm_rule nothing) (items_from l.tokens l.at));
  forward : l.at ≤ l.next;
}

abbrev pub decreases-read_arms-arms : goal.decreases-read_arms-arms
decreases-read_arms-arms l = length l.tokens - l.next

abbrev pub decreases-read_structure : goal.decreases-read_structure
decreases-read_structure l = 16 * l.depth + 10

abbrev pub decreases-read_array : goal.decreases-read_array
decreases-read_array l = 16 * l.depth + 9

abbrev pub decreases-read_next_denoters : goal.decreases-read_next_denoters
decreases-read_next_denoters l = 16 * l.depth + 8

abbrev pub decreases-read_arms : goal.decreases-read_arms
decreases-read_arms l = 16 * l.depth + 7

abbrev pub decreases-read_arm : goal.decreases-read_arm
decreases-read_arm l = 16 * l.depth + 6

abbrev pub decreases-read_fields : goal.decreases-read_fields
decreases-read_fields l = 16 * l.depth + 5

abbrev pub decreases-read_sections : goal.decreases-read_sections
decreases-read_sections l = 16 * l.depth + 4

abbrev pub decreases-read_sections_end : goal.decreases-read_sections_end
decreases-read_sections_end l = 16 * l.depth + 3

abbrev pub decreases-read_section : goal.decreases-read_section
decreases-read_section l = 16 * l.depth + 2

abbrev pub decreases-read_variants : goal.decreases-read_variants
decreases-read_variants l = 16 * l.depth + 1

abbrev pub decreases-read_denoter : goal.decreases-read_denoter
decreases-read_denoter l = 16 * l.depth
