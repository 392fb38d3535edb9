-- Each node of a schema is that of a typed tree.
use Rattle.std.proofs.Common.{refl}
use Rattle.grammar.specs.{Grammars.Level, Nesting.Trees}
use Rattle.pas_tree.proofs.{Levels.Levels, Memory.boxed, Parts.parts, Repeated.listed}
use Rattle.pas_tree.proofs.Covers.{Covers, choose, five, four, made, one, pair, three}
use Rattle.pas_tree.specs.Rules as r
use Rattle.pas_tree.specs.Schemas as node
use Rattle.pas_tree.specs.declared.schemas.{FormalType.Name, FormalType.Schema', Schema.Packed, Schema.Unpacked'}

module _ {E : Level → Trees} where
  spec_covered : Covers E r.spec_rule node.spec_node
  unfolding r.spec_rule
  spec_covered =
      made (λ (least, range, greatest, colon, of). record { least = least; range = range; greatest = greatest; colon = colon; of = of }) (λ _. refl)
      (five one one one one one)

  next_spec_covered : Covers E r.next_spec_rule node.next_spec_node
  unfolding r.next_spec_rule
  next_spec_covered = made (λ (semicolon, spec). record { semicolon = semicolon; spec = spec }) (λ _. refl) (pair one spec_covered)

  specs_covered : Covers E r.specs_rule node.specs_node
  unfolding r.specs_rule
  specs_covered = made (λ (first, others). record { first = first; others = others }) (λ _. refl)
      (pair spec_covered (listed parts.next_spec next_spec_covered))

  packed_schema_covered : Covers E r.packed_schema_rule node.packed_schema_node
  unfolding r.packed_schema_rule
  packed_schema_covered =
      made (λ (packed, word, open', spec, rest). record {
        packed = packed;
        word = word;
        «open» = open';
        spec = spec;
        close = rest.0;
        of = rest.1;
        component = rest.2;
      }) (λ _. refl) (five one one one spec_covered (three one one one))

module _ {E : Level → Trees} (levels : Levels E) where
  pub formal_type_covered : Covers E r.formal_type_rule node.formal_type_node
  unfolding r.formal_type_rule
  formal_type_covered = choose (made Name (λ _. refl) one) (made (Schema' (boxed tt)) (λ _. refl) levels.schema)

  pub schema_covered : Covers E r.schema_rule node.schema_node
  unfolding r.schema_rule r.unpacked_schema_rule
  schema_covered =
      choose (made Packed (λ _. refl) packed_schema_covered)
      (made (λ (word, open', specs, rest). Unpacked' word open' specs rest.0 rest.1 rest.2) (λ _. refl)
      (four one one specs_covered (three one one formal_type_covered)))
